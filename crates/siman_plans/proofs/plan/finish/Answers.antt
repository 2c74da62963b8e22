use Rattle.std.proofs.Common.{◌≤◌, List, length, sym, refl, ap, subst, ◌∙◌}
use Rattle.std.proofs.lemmas.List.{reverse-reverse}
use Rattle.exercise_model.specs.declared.recording.TheConstants.{MOST_ENTRIES}
use Rattle.exercise_model.specs.Recording.{PlainRecording}
use Rattle.siman_scripts.specs.declared.act.Move.{Move}
use Rattle.siman_stations.specs.World.{setting_of, sent_in, course_of}
use Rattle.siman_plans.specs.Notes.{NotesData}
use Rattle.siman_plans.specs.Sent.{SentData}
use Rattle.siman_plans.proofs.plan.finish.Goals as goal

pub returns : goal.returns
returns c = λ w d h.
    let lists = c.into_lists-planned.ensures in
    let recording = c.into_recording.ensures w d.moves h.world in
    let sent = lists.sent ∙ ap (λ (n : NotesData). n.sent) h.notes in
    let datagrams = ap (λ (ds : List SentData). length ds) sent
    ∙ (h.datagrams ∙ ap (λ (r : PlainRecording). length (sent_in r.entries)) (sym recording)) in
    record {
      recording = recording
          ∙ ap (λ (ms : List Move). let r : PlainRecording = record { setting = setting_of w; entries = (course_of w ms).entries } in r)
          (sym (reverse-reverse d.moves));
      planned = lists.planned ∙ ap (λ (n : NotesData). n.planned) h.notes;
      sent = sent;
      script = lists.script ∙ ap (λ (n : NotesData). n.script) h.notes;
      datagrams = datagrams;
      few = subst (λ (ds : List SentData). length ds ≤ MOST_ENTRIES) (sym sent) h.few;
      stop = refl;
    }
