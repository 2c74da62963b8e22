use Rattle.std.proofs.Common.{◌≡◌, ◌≤◌, ℕ, ◌∷◌, length, Option, None, Ok, ap, subst, ◌∙◌}
use Rattle.exercise_model.specs.declared.recording.TheConstants.{MOST_ENTRIES}
use Rattle.exercise_model.specs.Recording.{PlainRecording}
use Rattle.siman_scripts.specs.declared.act.Move.{Move}
use Rattle.siman_stations.specs.Holds.{IsAfter}
use Rattle.siman_stations.specs.World.{course_of, move_fault}
use Rattle.siman_plans.specs.declared.deed.Deed.{Deed}
use Rattle.siman_plans.specs.declared.planner.Planner.{Planner}
use Rattle.siman_plans.specs.Notes.{NotesData}
use Rattle.siman_plans.specs.Plan.{PlanData, sent_count, move_at, sends_by, made}
use Rattle.siman_plans.specs.SoFar.{IsSoFar, last_told, deed_before, completed}
use Rattle.siman_plans.proofs.Moves.{did_after, text_at, station_within, is_kept, made_at}
use Rattle.siman_plans.proofs.planner.Planner.make.Goals as goal

pub returns-in-Ok : goal.returns-in-Ok
returns-in-Ok c = λ w d h.
    let kept = c.args.self.now in
    let act = c.args.act in
    let s = c.args.station in
    let ms = d.moves in
    let m : Move = move_at kept.notes s act in
    let sends = c.in-Ok.sends in
    let step = subst (λ (n : ℕ). let q : Move = record { now = n; station = s; act = act } in
    IsAfter w (q ∷ ms) c.make_move.new.world × (move_fault w (course_of w ms) q ≡ None) × (sends ≡ sends_by w (course_of w ms) q)
    × (sent_count (course_of w (q ∷ ms)) ≤ MOST_ENTRIES))
    c.clock-now.ensures (c.in-Ok.ensures w ms h.world) in
    let state = c.last_told.ensures ∙ ap (λ (r : PlainRecording). last_told r.entries) (c.recording-in-Ok.ensures w (m ∷ ms) step.0) in
    let did = c.completed-did.ensures
    ∙ (ap (λ (x : Deed). completed sends c.last_told.result x)
    (c.deed_before-did.ensures ∙ ap (λ (l : Option ℕ). deed_before act s c.sent_count.result l) c.label_of-label.ensures)
    ∙ did_after w ms m _ c.sent_count.result sends c.last_told.result (c.sent_count.ensures w ms h.world).0 state) in
    let text = c.deref.ensures.value
    ∙ text_at w ms c.recording.result.now s act c.in_ok-text.text.items (c.recording.ensures w ms h.world)
    (station_within w (course_of w ms) m step.1) c.in_ok-text.ensures in
    let new : Planner = record { world = c.make_move.new.world; notes = c.note.new.self } in
    subst (λ (p : PlanData). (e : PlanData) × (made w c.args.line c.args.is_labelled (move_at p.notes s act) p ≡ Ok e) × IsSoFar w e new) (is_kept w d kept h)
    (made_at w ms kept new c.args.line c.args.is_labelled s act sends c.completed-did.result c.deref.result.now
    (ap (λ (n : NotesData). n.made) h.notes ∙ h.count) (ap (λ (n : NotesData). length n.sent) h.notes ∙ h.datagrams) step.3 step.0 step.1 step.2 did text c.in_ok-note-in-Ok.ensures)
