-- A recording that was carried over to the second format is checked as it was.
use Rattle.std.proofs.Common.{◌≡◌, ℕ, ◌<◌, ◌≤◌, List, Some, refl, sym, subst, ap, ◌∙◌, inl, inr, ⊎_elim, arith}
use Rattle.std.specs.Prelude.{◌↔◌}
use Rattle.std.proofs.lemmas.Bool.{cases_lt}
use Rattle.std.proofs.lemmas.Option.{none-some, same_Some}
use Rattle.exercise_model.specs.declared.cause.Cause.{Cause}
use Rattle.exercise_model.specs.declared.form.Form.{Form}
use Rattle.exercise_model.specs.declared.form.Form.TheVariants.{First}
use Rattle.exercise_model.specs.Setting.{SettingData, is_recorded, may_be_heard}
use Rattle.exercise_model.specs.Recording.{PlainRecording}
use Rattle.exercise_model.specs.Cause.{get_cause, cause_of}
use Rattle.exercise_model.specs.Place.{own_event, entry_taken_up, log_before}
use Rattle.exercise_model.specs.Conversion.{closed, converted}
use Rattle.exercise_model.proofs.Offered.{read_alike}
use Rattle.exercise_check.specs.declared.certificate.Step.{Step}
use Rattle.exercise_check.specs.declared.checker.CheckFault.{CheckFault}
use Rattle.exercise_check.specs.declared.checker.CheckFault.TheVariants.{Bad, Memory}
use Rattle.exercise_check.specs.Sequence.{sequence_of, is_next, link_of}
use Rattle.exercise_check.specs.Goodness.{step_cause, cause_at, IsGood, IsFirstBad, Refuses}
use Rattle.exercise_findings.specs.Account.{AccountData, IsAccount}

-- who may be heard is all that a step asks of the form, and that is as it was
same_in_form : (r : PlainRecording) (before : List Step) (step : Step)
    → (let first : PlainRecording = record r { setting = record r.setting { form = First } } in step_cause first before step ≡ step_cause (converted r) before step)
unfolding step_cause is_next sequence_of log_before link_of entry_taken_up own_event cause_of get_cause may_be_heard is_recorded
same_in_form r before step = refl

pub step_alike : (r : PlainRecording) (before : List Step) (step : Step) → r.setting.form ≡ First → step_cause r before step ≡ step_cause (converted r) before step
step_alike r before step first =
    subst (λ (f : Form). let old : PlainRecording = record r { setting = record r.setting { form = f } } in step_cause old before step ≡ step_cause (converted r) before step)
    (sym first) (same_in_form r before step)

-- settings by which each step has the same cause against it
abbrev AreAlike : PlainRecording → SettingData → Type 0
AreAlike r w = (before : List Step) (step : Step) → (let other : PlainRecording = record r { setting = w } in step_cause r before step ≡ step_cause other before step)

-- have the same good certificates
good_on : (r : PlainRecording) (w : SettingData) → AreAlike r w → (steps : List Step) → IsGood r steps
    → (let other : PlainRecording = record r { setting = w } in IsGood other steps)
good_on r w alike steps p = record { count = p.count; good = λ k within. sym (alike _ _) ∙ p.good k within }

-- and refuse the others alike
refused_on : (r : PlainRecording) (w : SettingData) → AreAlike r w → (steps : List Step) (fault : CheckFault) → Refuses r steps fault
    → (let other : PlainRecording = record r { setting = w } in Refuses other steps fault)
refused_on r w alike steps (Bad k cause) (inl p) = inl (record { count = p.count; first = p.first; here = p.here })
refused_on r w alike steps (Bad k cause) (inr p) = inr (record {
  count = p.count;
  within = p.within;
  good = λ j below. sym (alike _ _) ∙ p.good j below;
  here = sym (alike _ _) ∙ p.here;
  other = p.other;
})
refused_on r w alike steps Memory p = tt

closed_alike : (r : PlainRecording) → r.setting.form ≡ First → AreAlike r (closed r.setting)
closed_alike r first before step = step_alike r before step first

first_alike : (r : PlainRecording) → r.setting.form ≡ First → AreAlike (converted r) r.setting
first_alike r first before step = sym (step_alike r before step first)

pub good_alike : (r : PlainRecording) (steps : List Step) → r.setting.form ≡ First → IsGood r steps ↔ IsGood (converted r) steps
good_alike r steps first =
    (good_on r (closed r.setting) (closed_alike r first) steps, good_on (converted r) r.setting (first_alike r first) steps)

pub refused_alike : (r : PlainRecording) (steps : List Step) (fault : CheckFault) → r.setting.form ≡ First → Refuses r steps fault ↔ Refuses (converted r) steps fault
refused_alike r steps fault first =
    (refused_on r (closed r.setting) (closed_alike r first) steps fault, refused_on (converted r) r.setting (first_alike r first) steps fault)

pub told_alike : (r : PlainRecording) (c : AccountData) → IsAccount r c ↔ IsAccount (converted r) c
told_alike r c =
    let alike = read_alike r in (
      λ p. record { states = λ s. p.states s ∙ alike.states s; pairs = λ i. p.pairs i ∙ alike.pairs i; causes = λ i. p.causes i ∙ alike.changes i; others = p.others ∙ alike.others },
      λ p. record { states = λ s. p.states s ∙ sym (alike.states s); pairs = λ i. p.pairs i ∙ sym (alike.pairs i); causes = λ i. p.causes i ∙ sym (alike.changes i); others = p.others ∙ sym alike.others },
    )

-- two first bad steps of one certificate are one
first_is_one : (r : PlainRecording) (steps : List Step) (k j : ℕ) (cause other : Cause) → IsFirstBad r steps k cause → IsFirstBad r steps j other → k < j → ⊥
first_is_one r steps k j cause other p q before = none-some cause (sym (q.good k before) ∙ p.here)

same_first : (r : PlainRecording) (steps : List Step) (k j : ℕ) (cause other : Cause) → IsFirstBad r steps k cause → IsFirstBad r steps j other → k ≡ j
same_first r steps k j cause other p q =
    ⊎_elim (λ (before : k < j). absurd (first_is_one r steps k j cause other p q before))
    (λ (behind : j ≤ k). ⊎_elim (λ (before : j < k). absurd (first_is_one r steps j k other cause q p before)) (λ (within : k ≤ j). omega arith) (cases_lt j k))
    (cases_lt k j)

same_here : (r : PlainRecording) (steps : List Step) (k j : ℕ) (cause other : Cause) → k ≡ j → cause_at r steps k ≡ Some cause → cause_at r steps j ≡ Some other → cause ≡ other
same_here r steps k j cause other same here there = same_Some cause other (sym here ∙ ap (cause_at r steps) same ∙ there)

-- a certificate is refused in one way
refused_once : (r : PlainRecording) (steps : List Step) (k j : ℕ) (cause other : Cause) → Refuses r steps (Bad k cause) → Refuses r steps (Bad j other) → (k ≡ j) × (cause ≡ other)
refused_once r steps k j cause other (inl p) (inl q) = (p.first ∙ sym q.first, p.here ∙ sym q.here)
refused_once r steps k j cause other (inl p) (inr q) = absurd (p.count q.count)
refused_once r steps k j cause other (inr p) (inl q) = absurd (q.count p.count)
refused_once r steps k j cause other (inr p) (inr q) =
    let same = same_first r steps k j cause other p q in (same, same_here r steps k j cause other same p.here q.here)

pub one_refusal : (r : PlainRecording) (steps : List Step) (k j : ℕ) (cause other : Cause) → r.setting.form ≡ First → Refuses r steps (Bad k cause)
    → Refuses (converted r) steps (Bad j other) → (k ≡ j) × (cause ≡ other)
one_refusal r steps k j cause other first p q = refused_once r steps k j cause other p ((refused_alike r steps (Bad j other) first).1 q)

good_unrefused : (r : PlainRecording) (steps : List Step) (k : ℕ) (cause : Cause) → IsGood r steps → Refuses r steps (Bad k cause) → ⊥
good_unrefused r steps k cause p (inl q) = q.count p.count
good_unrefused r steps k cause p (inr q) = none-some cause (sym (p.good k q.within) ∙ q.here)

pub never_refused : (r : PlainRecording) (steps : List Step) (k : ℕ) (cause : Cause) → r.setting.form ≡ First → IsGood r steps
    → Refuses (converted r) steps (Bad k cause) → ⊥
never_refused r steps k cause first p q = good_unrefused r steps k cause p ((refused_alike r steps (Bad k cause) first).1 q)
