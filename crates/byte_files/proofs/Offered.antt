-- The lemmas on reading and writing fields that this crate offers to the crates of the formats; its other pages of proofs are its own.
pub use Rattle.byte_files.proofs.Fields.{Reading, Reads, Takes, at_start, bytes_same, field_behind, front, tested_err, number_behind, number_end, ok_err, takes_nothing, where_behind, where_is, where_there, wide32}
pub use Rattle.byte_files.proofs.Repeats.{SoFar, last_end, last_stop, times_done, times_on, times_stop, until_end, until_on, until_stop}
pub use Rattle.byte_files.proofs.Writes.{at_error, more_out, next_fails, writes_later, writes_part, writes_then, written_part}
pub use Rattle.byte_files.proofs.Codec.{Agrees, IsEach, IsMark, IsNext, IsOfEach, IsReady, IsWhole, UpTo, up_all, up_on, next_text, nothing_agrees, agrees_as, any_byte_agrees, bind_twice, byte_agrees, end_whole, field_agrees, tested_mark, last_agrees, last_whole, mark_agrees, mark_whole, number_agrees, tested_agrees, then_agrees, then_whole, times_agrees, until_agrees, eight_bytes, four_bytes, two_bytes, where16, where8, where_agrees, whole_as, whole_text, whole_within}
pub use Rattle.byte_files.proofs.Wrong.{ReportsFault, Reaches, Refuses, any_wrong, bytes_wrong, end_wrong, failure, failure_is, field_wrong, tested_wrong, number_wrong, reach_behind, reach_first, reach_last, reach_mark, reach_more, reach_next, reach_on, reach_read, reach_start, reach_times, reach_until, refuses_behind, refuses_last, refuses_mark, refuses_never, refuses_on, refuses_read, refuses_then, refuses_times, refuses_until, twice_wrong, where_then_wrong, where_wrong}
