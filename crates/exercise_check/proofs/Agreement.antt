-- What is read as a certificate is its text, and its text is read as it.
use Rattle.std.proofs.Common.{◌≡◌, ℕ, ◌+◌, ◌*◌, ◌^◌, ◌<◌, ◌≤◌, true, List, [], ◌∷◌, ◌++◌, length, refl, sym, ap, ◌∙◌, append-nil, arith}
use Rattle.std.specs.Prelude.{nat_lt, nat_le, codes, bytes_eq}
use Rattle.std.specs.List.{flat_map, list_all}
use Rattle.std.specs.Int.{w32, to_be_bytes}
use Rattle.std.proofs.lemmas.Bool.{and_parts, and_from, lt-ltb, ltb-true, leb-true, le-leb}
use Rattle.std.proofs.lemmas.List.{length-append}
use Rattle.byte_files.specs.Fields as fields
use Rattle.byte_files.proofs.Offered.{Agrees, IsMark, IsOfEach, IsWhole, agrees_as, bytes_same, end_whole, field_agrees, tested_mark, last_agrees, mark_whole, four_bytes, tested_agrees, then_agrees, then_whole, times_agrees, whole_as}
use Rattle.exercise_check.specs.declared.certificate.Step.{Step}
use Rattle.exercise_check.specs.declared.certificate_fault.CertificateFormatFault.TheVariants as faults
use Rattle.exercise_check.specs.Certificate.{step_text, head_text, certificate_text, is_step, names, magic_at, count_at, step_at, steps_at, whole_at}

pub magic_mark : IsMark magic_at (codes "DSCT0001")
unfolding magic_at
magic_mark =
    let magic = codes "DSCT0001" in
    tested_mark (λ b. bytes_eq b magic) faults.Magic magic (field_agrees names 8) refl refl (λ b h same. bytes_same b magic same)

pub count_agrees : (limit : ℕ) → Agrees (count_at limit) (to_be_bytes w32) (λ n. (n < 2 ^ 32) × (nat_le n limit ≡ true))
unfolding count_at fields.number_where
count_agrees limit = tested_agrees (four_bytes names) (λ n. nat_le n limit) faults.OverLimit

pub step_agrees : Agrees step_at step_text (λ s. is_step s ≡ true)
unfolding step_at
step_agrees =
    agrees_as (then_agrees (four_bytes names) (λ s. s.place)
    (λ p h. last_agrees (four_bytes names) (λ l. record { place = p; link = l }) (λ s. s.link) (λ l g. refl)) (λ p s h q. sym (ap (λ s. s.place) q.1)))
    (λ s h. refl) (λ s h. and_from _ _ (lt-ltb _ _ h.0) (lt-ltb _ _ h.1.0))
    (λ s h. let p = and_parts (nat_lt s.place 4294967296) (nat_lt s.link 4294967296) h in (ltb-true _ _ p.0, (ltb-true _ _ p.1, refl)))

pub step_each : IsOfEach (λ s. is_step s ≡ true) (λ ss. list_all is_step ss ≡ true)
step_each =
    record { none = λ u. refl; more = λ u s ss good all. and_from _ _ good all; parts = λ u s ss all. and_parts (is_step s) (list_all is_step ss) all }

pub steps_agrees : (n : ℕ) → Agrees (steps_at n) (flat_map step_text) (λ ss. (length ss ≡ n) × (list_all is_step ss ≡ true))
steps_agrees n = times_agrees step_each (λ u. step_agrees) n tt

-- Steps as a certificate of at most so many has them.
pub record IsCertificate (limit : ℕ) (steps : List Step) : Type 0 where
  pub few : length steps < 2 ^ 32
  pub within : length steps ≤ limit
  pub each : list_all is_step steps ≡ true

pub whole_agrees : (limit : ℕ) → IsWhole (whole_at limit) certificate_text (IsCertificate limit)
unfolding whole_at
whole_agrees limit =
    whole_as (mark_whole magic_mark (then_whole (count_agrees limit) length
    (λ n h. then_whole (steps_agrees n) (λ ss. ss) (λ ss g. end_whole faults.Trailing ss) (λ ss x g q. sym q)) (λ n ss h q. q.0.0)))
    (λ ss h. ap (λ u. head_text (length ss) ++ u) (append-nil (flat_map step_text ss)))
    (λ ss h. record { few = h.0.0; within = leb-true _ _ h.0.1; each = h.1.0.1 })
    (λ ss h. ((h.few, le-leb _ _ h.within), ((refl, h.each), refl)))

-- so many steps have a text of eight times as many bytes
pub length-steps : (steps : List Step) → length (flat_map step_text steps) ≡ 8 * length steps
length-steps [] = refl
length-steps (s ∷ ss) =
    let size : length (flat_map step_text (s ∷ ss)) ≡ 8 + length (flat_map step_text ss) = length-append (step_text s) (flat_map step_text ss) in
    let others : length (flat_map step_text ss) ≡ 8 * length ss = length-steps ss in
    omega arith

pub length-certificate : (steps : List Step) → length (certificate_text steps) ≡ 12 + 8 * length steps
length-certificate steps = length-append (head_text (length steps)) (flat_map step_text steps) ∙ ap (λ n. 12 + n) (length-steps steps)
