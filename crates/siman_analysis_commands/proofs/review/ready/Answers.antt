-- What is ready is the text of the review, and the laws hold of what it tells.
use Rattle.std.proofs.Common.{◌≡◌, ◌≤◌, ◌++◌, Bool, List, refl, sym, ap, subst, ◌∙◌}
use Rattle.exercise_model.specs.Recording.{PlainRecording}
use Rattle.exercise_review.specs.declared.party.Party.TheVariants.{Station}
use Rattle.exercise_review.specs.declared.review.TheConstants.{MOST_LINES}
use Rattle.exercise_review.specs.Fate.{fate_of}
use Rattle.exercise_audit.specs.Audit.{IsExplained}
use Rattle.exercise_review.specs.Review.{line_count}
use Rattle.exercise_review.specs.declared.filter.Filter.{Filter}
use Rattle.siman_print.specs.declared.spelling.Spelling.{Spelling}
use Rattle.exercise_log.specs.ReviewRows.Review.{review_spelled, head_spelled, body_spelled}
use Rattle.siman_analysis_commands.specs.declared.review.ReviewText.{ReviewText}
use Rattle.siman_analysis_commands.specs.declared.review.ReviewText.TheVariants.{Rows, Sentences}
use Rattle.siman_analysis_commands.specs.Review.{text_told, head_told, body_told, IsFateIn}
use Rattle.siman_analysis_commands.proofs.Reviewed.{each_fate}
use Rattle.siman_analysis_commands.proofs.review.ready.Goals as goal

-- the head and the lines after it are the whole text
parts_told : ((spelling : Spelling) (r : PlainRecording) (explained : Bool) (filters : List Filter)
    → review_spelled spelling r explained filters ≡ head_spelled spelling r explained filters ++ body_spelled spelling r filters)
    → (form : ReviewText) (r : PlainRecording) (explained : Bool) (filters : List Filter)
    → text_told form r explained filters ≡ head_told form r explained filters ++ body_told form r filters
parts_told law (Rows spelling) r explained filters = law spelling r explained filters
parts_told law Sentences r explained filters = refl

pub returns : goal.returns
returns g c =
    let r : PlainRecording = g.L.ExerciseLog.recording c.args.log.now in
    let form : ReviewText = c.args.form in
    let filters = c.args.filters.now in
    let explained = c.in_ok-is_explained.field-0.is_explained in
    let told : PlainRecording = c.in_ok-reviewed.reviewed in
    let limits = c.in_ok-of.ensures.limits in
    let same : c.in_ok-is_explained.field-0.findings ≡ r = c.in_ok-is_explained.ensures.findings ∙ c.in_ok-of.ensures.findings in
    let law = c.fates_hold.ensures in
    record {
      explained = explained;
      explains = subst (λ (x : PlainRecording). IsExplained x explained) c.in_ok-of.ensures.findings c.in_ok-is_explained.ensures.explained;
      within = subst (λ (x : PlainRecording). line_count x ≤ MOST_LINES) same c.in_ok-reviewed.ensures.within;
      text_is = ap (λ t. t ++ body_told form told filters) c.in_ok-head.ensures ∙ sym (parts_told c.head_and_body_are_all.ensures form told explained filters)
          ∙ ap (λ (x : PlainRecording). text_told form x explained filters) (c.in_ok-reviewed.ensures.reviewed ∙ same);
      part = c.review_filters_take_away.ensures r explained filters;
      fates = λ h o s t explains within maker. each_fate (λ fate. fate_of r o (Station t) ≡ fate → IsFateIn r h o s t fate)
          (law.done r h o s t limits explains within maker) (law.answered r h o s t limits explains within maker)
          (law.refused r h o s t limits explains within maker) (law.pending r h o s t explains maker) (law.unheard r h o s t explains maker)
          (law.unanswered r h o s t explains maker) (law.lost r h o s t explains maker) (law.known r o s t maker) (λ nobody. tt)
          (fate_of r o (Station t)) refl;
      lives = c.lives_are_states.ensures r;
    }
