-- The lemmas on stations that this crate offers to the crates above; its other pages of proofs are its own.
pub use Rattle.siman_stations.proofs.Orders.{stamp_within, fit_requests, order_range, made_own, repeat_is, repeat_own}
pub use Rattle.siman_stations.proofs.Requests.{reply_own}
pub use Rattle.siman_stations.proofs.Repeats.{repeat_told}
pub use Rattle.siman_stations.proofs.Entries.{past-one, past-none, past-first, past-sent, past-came, log-first, log-own, log-other, own_sent, all_append}
pub use Rattle.siman_stations.proofs.Halves.{halves_begun, halves_take, halves_pass, halves_lose, halves_tell, halves_order, halves_withhold, halves_tick, halves_repeat, halves_closed, none_missing}
pub use Rattle.siman_stations.proofs.Deeds.{requests_ordered, deeds_stand, state_follows}
pub use Rattle.siman_stations.proofs.Runs.{AllStand, all_tail, GetsStand, heard_run, all_run}
pub use Rattle.siman_stations.proofs.Bytes.{SendsBytes, sends_bytes, bytes_first, bytes_both, was_bytes}
