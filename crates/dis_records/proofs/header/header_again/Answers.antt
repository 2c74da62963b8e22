use Rattle.std.proofs.Common.{◌≡◌, refl, ◌∙◌}
use Rattle.dis_records.specs.Header.{version_code}
use Rattle.dis_records.specs.Kind.{kind_code}
use Rattle.dis_records.proofs.Headers.{header_built}
use Rattle.dis_records.proofs.header.header_again.Goals as goal

pub returns : goal.returns
returns c =
    let version : version_code c.unwrap-version.result ≡ c.u8_at.result = rw c.unwrap-version.ensures at c.from_code.ensures.version in
    let kind : kind_code c.unwrap-kind.result ≡ c.u8_at-2.result = rw c.unwrap-kind.ensures at c.from_code-2.ensures.kind in
    header_built c.args.bytes.now c.unwrap-version.result c.u8_at-3.result c.unwrap-kind.result c.u32_at.result c.u16_at.result c.carried_status.result
    (version ∙ c.u8_at.ensures) c.u8_at-3.ensures (kind ∙ c.u8_at-2.ensures) c.u32_at.ensures c.u16_at.ensures
    (c.carried_status.ensures ∙ rw c.u8_at-status.ensures refl)
