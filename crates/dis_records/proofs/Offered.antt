-- The lemmas on headers, records and layouts that this crate offers to the crates above; its other pages of proofs are its own.
pub use Rattle.dis_records.proofs.Cleared.{cleared-cleared, cleared_end, cleared_is, length-cleared}
pub use Rattle.dis_records.proofs.Equality.{datum_decides, exact_equivalence}
pub use Rattle.dis_records.proofs.Headers.{header_is, header_reads, header_stands, status_again}
pub use Rattle.dis_records.proofs.Layouts.{fixed_is, fixed_stand, ids_are, ids_stand, join, length-fixed_at, length-ids_at, length-variable_at, size-append, size-fixed_layouts, size-id_layouts, split, text-append, variable_is, variable_stand}
pub use Rattle.dis_records.proofs.Lists.{sizes_more}
pub use Rattle.dis_records.proofs.Written.{Fit-append, fits16, fits32, length-text, number_at-append, text_spells}
