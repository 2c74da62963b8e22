use Rattle.std.proofs.Common.{◌≡◌, ◌++◌, List, [], take, drop, refl, sym, ap, ◌∙◌, subst, append_assoc}
use Rattle.std.specs.List.{flat_map}
use Rattle.std.proofs.KnownBytes.{Appends-nil, Appends-trans}
use Rattle.std.proofs.lemmas.List.{take-append-drop}
use Rattle.std.proofs.lemmas.List.Concat.{flat_map-append}
use Rattle.byte_files.specs.Writing.{Writes, WritesPart}
use Rattle.byte_files.proofs.Offered.{writes_then, writes_part, writes_later, at_error}
use Rattle.exercise_check.specs.declared.certificate.Step.{Step}
use Rattle.exercise_check.specs.Certificate.{step_text}
use Rattle.exercise_check.proofs.certificate_text.put_steps.Goals as goal

pub loop-others-init : goal.loop-others-init
loop-others-init g c = ([], (Appends-nil _, refl))

-- the text of all steps that are left is that of a block and of the rest
in_two : (steps block rest : List Step) → block ≡ take 512 steps → rest ≡ drop 512 steps
    → flat_map step_text block ++ flat_map step_text rest ≡ flat_map step_text steps
in_two steps block rest front back =
    sym (flat_map-append step_text block rest) ∙ ap (flat_map step_text) (rw (front, back) (take-append-drop 512 steps))

pub loop-others-preserved : goal.loop-others-preserved
loop-others-preserved g c =
    let left : List Step = c.loop-others.others.now in
    let block : List Step = c.split_at.result.0.now in
    let rest : List Step = c.split_at.result.1.now in
    let out = c.loop-others.invariant in (
      out.0 ++ flat_map step_text block,
      (
        Appends-trans _ _ _ out.0 (flat_map step_text block) out.1.0 c.in_ok-put_block.ensures,
        append_assoc out.0 (flat_map step_text block) (flat_map step_text rest)
            ∙ ap (λ t. out.0 ++ t) (in_two left block rest c.split_at.ensures.front c.split_at.ensures.back) ∙ out.1.1,
      ),
    )

pub returns-in_err-put_block : goal.returns-in_err-put_block
returns-in_err-put_block g c =
    let left : List Step = c.loop-others.others.now in
    let block : List Step = c.split_at.result.0.now in
    let rest : List Step = c.split_at.result.1.now in
    let out = c.loop-others.invariant in
    let whole = in_two left block rest c.split_at.ensures.front c.split_at.ensures.back in
    at_error c.from_residual.result _ _ _ c.from_residual.ensures.0
    (subst (WritesPart _ _) (ap (λ t. out.0 ++ t) whole ∙ out.1.1)
    (writes_later _ _ _ out.0 (flat_map step_text block ++ flat_map step_text rest) out.1.0
    (writes_part _ _ (flat_map step_text block) (flat_map step_text rest) c.in_err-put_block.ensures)))

pub returns : goal.returns
returns g c =
    let out = c.loop-others.invariant in
    subst (Writes c.put_block-2.result _ _) out.1.1
    (writes_then c.put_block-2.result _ _ _ out.0 (flat_map step_text c.loop-others.others.now) out.1.0 c.put_block-2.ensures)
