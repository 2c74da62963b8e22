use Rattle.std.proofs.Common.{◌≡◌, ℕ, ◌+◌, ◌*◌, length, replicate, Ok, Err, sym, ap, subst, ◌∙◌, arith}
use Rattle.std.proofs.lemmas.Result.{err_from_is_err_and}
use Rattle.std.specs.Int.{w32}
use Rattle.dis_records.specs.Layout.{spelled_number}
use Rattle.siman_pdus.specs.Shape.{ends}
use Rattle.siman_pdus.proofs.Ends.{ends-append, continued}
use Rattle.siman_pdus.proofs.shape.ids_end.Goals as goal

pub returns-in_err-fixed : goal.returns-in_err-fixed
returns-in_err-fixed c =
    let b = c.args.bytes.now in
    let counts = c.args.counts in
    let n = spelled_number w32 counts b in
    let fault = c.in_err-fixed.field-0.0 in
    let p = err_from_is_err_and c.from_residual.result c.from_residual.ensures.1 in
    let fixed : ends (counts + 8) (replicate n 4) (length b) ≡ Err fault = subst
    (λ (k : ℕ). ends (counts + 8) (replicate k 4) (length b) ≡ Err fault) c.u32_at.ensures (sym c.in_err-fixed.ensures.ends) in
    let sizes = replicate (spelled_number w32 (counts + 4) b) 4 in
    rw (p.1, p.2) (sym (ends-append (counts + 8) (replicate n 4) sizes (length b) ∙ ap (λ r. continued r sizes (length b)) fixed))

pub returns : goal.returns
returns c =
    let b = c.args.bytes.now in
    let counts = c.args.counts in
    let n = spelled_number w32 counts b in
    let end = counts + 8 + 4 * n in
    let end_is : c.in_ok-fixed.fixed ≡ end = omega (arith, c.in_ok-fixed.ensures.within.0, c.u32_at.ensures) in
    let fixed : ends (counts + 8) (replicate n 4) (length b) ≡ Ok end = subst
    (λ (k : ℕ). ends (counts + 8) (replicate k 4) (length b) ≡ Ok end) c.u32_at.ensures (sym c.in_ok-fixed.ensures.ends ∙ ap (λ k. Ok k) end_is) in
    let sizes = replicate (spelled_number w32 (counts + 4) b) 4 in
    let others : c.parts_end-2.result ≡ ends end sizes (length b) = c.parts_end-2.ensures.ends ∙ ap
    (λ (k : ℕ). ends k (replicate c.u32_at-2.result 4) (length b)) end_is ∙ ap (λ (k : ℕ). ends end (replicate k 4) (length b)) c.u32_at-2.ensures in
    others ∙ sym (ends-append (counts + 8) (replicate n 4) sizes (length b) ∙ ap (λ r. continued r sizes (length b)) fixed)
