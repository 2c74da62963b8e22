-- What is held is what was taken from the reader, and no more than may be.
use Rattle.std.proofs.Common.{◌≤◌, ◌+◌}
use Rattle.std.specs.Prelude.{vec_len}
use Rattle.std.specs.Io.KnownBytes.{Consumes}
use Rattle.byte_files.proofs.fetching.fetch_chunks.Given as goal

abbrev pub invariant-loop : goal.invariant-loop
invariant-loop g l = record {
  taken : Consumes (g.R.Read.remaining l.initial.reader) (g.R.Read.remaining l.reader) l.bytes.items;
  within : vec_len l.bytes ≤ l.most + 1;
}
