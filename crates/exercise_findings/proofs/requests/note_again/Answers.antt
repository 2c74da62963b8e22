use Rattle.std.proofs.Common.{◌≡◌, cond, Some, Bool, true, false, refl, sym, ap, ◌∙◌}
use Rattle.std.specs.Prelude.{is_some}
use Rattle.indexmap.specs.IndexMap.{get}
use Rattle.siman_pdus.specs.declared.pdu.Pdu.{Pdu}
use Rattle.siman_pdus.specs.Reading.{pdu_of}
use Rattle.exercise_model.specs.Place.{log_before}
use Rattle.exercise_model.specs.Cause.{is_reused}
use Rattle.exercise_findings.specs.Requests.{same_identifier}
use Rattle.exercise_findings.proofs.Meant.{first_meant}
use Rattle.exercise_findings.proofs.Reused.{itself, requests_again, reused_mixed, reused_unmixed}
use Rattle.exercise_findings.proofs.requests.note_again.Goals as goal

pub returns-then-contains_key-clause-tied : goal.returns-then-contains_key-clause-tied
returns-then-contains_key-clause-tied g c =
    let r = g.L.ExerciseLog.recording c.args.log.now in
    let n = c.args.entry in
    let q : Pdu = pdu_of c.args.pdu.now in
    let k = c.args.identifier in
    let old = c.args.requests.now in
    let mixed : is_some (get same_identifier old.mixed k) ≡ true = sym c.contains_key.ensures ∙ c.if-contains_key.true in
    requests_again r n k.station c.args.first q k old old.mixed c.requires.sends c.requires.own c.requires.first
    (mixed ∙ sym (reused_mixed r n k.station c.args.first q k old c.requires.sends c.requires.own c.requires.first c.requires.tied mixed))
    (λ l apart. refl) c.requires.tied

pub returns-then-contains_key-clause-reused : goal.returns-then-contains_key-clause-reused
returns-then-contains_key-clause-reused g c =
    let r = g.L.ExerciseLog.recording c.args.log.now in
    let k = c.args.identifier in
    sym (reused_mixed r c.args.entry k.station c.args.first (pdu_of c.args.pdu.now) k c.args.requests.now c.requires.sends c.requires.own c.requires.first
    c.requires.tied (sym c.contains_key.ensures ∙ c.if-contains_key.true))

pub differs-reused-requires : goal.differs-reused-requires
differs-reused-requires g c =
    let r = g.L.ExerciseLog.recording c.args.log.now in
    first_meant r c.args.identifier c.args.entry c.args.first c.requires.first

pub returns-in_ok-keep_first-clause-tied : goal.returns-in_ok-keep_first-clause-tied
returns-in_ok-keep_first-clause-tied g c =
    let r = g.L.ExerciseLog.recording c.args.log.now in
    let n = c.args.entry in
    let q : Pdu = pdu_of c.args.pdu.now in
    let k = c.args.identifier in
    let old = c.args.requests.now in
    let kept : Bool = c.in_ok-keep_first.field-0 in
    let reused : c.differs-reused.result ≡ is_reused r.setting.exercise q (log_before r k.station n) = c.differs-reused.ensures
    ∙ sym (reused_unmixed r n k.station c.args.first q k old c.requires.sends c.requires.own c.requires.first c.requires.tied
    (sym c.contains_key.ensures ∙ c.if-contains_key.false)) in
    requests_again r n k.station c.args.first q k old c.keep_first.new.table c.requires.sends c.requires.own c.requires.first
    (ap is_some (c.in_ok-keep_first.ensures.noted k ∙ ap (λ b. cond b (Some kept) (get same_identifier old.mixed k)) (itself k)) ∙ sym c.if-reused.true ∙ reused)
    (λ l apart. c.in_ok-keep_first.ensures.noted l ∙ ap (λ b. cond b (Some kept) (get same_identifier old.mixed l)) apart) c.requires.tied

pub returns-in_ok-keep_first-clause-reused : goal.returns-in_ok-keep_first-clause-reused
returns-in_ok-keep_first-clause-reused g c =
    let r = g.L.ExerciseLog.recording c.args.log.now in
    let k = c.args.identifier in
    c.differs-reused.ensures
    ∙ sym (reused_unmixed r c.args.entry k.station c.args.first (pdu_of c.args.pdu.now) k c.args.requests.now c.requires.sends c.requires.own c.requires.first
    c.requires.tied (sym c.contains_key.ensures ∙ c.if-contains_key.false))

pub returns-else-reused-clause-tied : goal.returns-else-reused-clause-tied
returns-else-reused-clause-tied g c =
    let r = g.L.ExerciseLog.recording c.args.log.now in
    let n = c.args.entry in
    let q : Pdu = pdu_of c.args.pdu.now in
    let k = c.args.identifier in
    let old = c.args.requests.now in
    let pure : is_some (get same_identifier old.mixed k) ≡ false = sym c.contains_key.ensures ∙ c.if-contains_key.false in
    requests_again r n k.station c.args.first q k old old.mixed c.requires.sends c.requires.own c.requires.first
    (pure ∙ sym c.if-reused.false ∙ c.differs-reused.ensures
    ∙ sym (reused_unmixed r n k.station c.args.first q k old c.requires.sends c.requires.own c.requires.first c.requires.tied pure))
    (λ l apart. refl) c.requires.tied

pub returns-else-reused-clause-reused : goal.returns-else-reused-clause-reused
returns-else-reused-clause-reused g c =
    let r = g.L.ExerciseLog.recording c.args.log.now in
    let k = c.args.identifier in
    c.differs-reused.ensures
    ∙ sym (reused_unmixed r c.args.entry k.station c.args.first (pdu_of c.args.pdu.now) k c.args.requests.now c.requires.sends c.requires.own c.requires.first
    c.requires.tied (sym c.contains_key.ensures ∙ c.if-contains_key.false))
