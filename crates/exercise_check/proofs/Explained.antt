-- Good steps name a run, and a good certificate one that explains the recording.
use Rattle.std.proofs.Common.{◌≡◌, ℕ, zero, suc, ◌<◌, ◌≤◌, List, [], ◌∷◌, length, take, Some, true, refl, sym, ap, ◌∙◌, subst, arith}
use Rattle.std.specs.Prelude.{slice_get, slice_index_or, ◌&&◌}
use Rattle.std.specs.Option.{option_map_or}
use Rattle.std.proofs.Math.Numerals.{add-one}
use Rattle.std.proofs.lemmas.List.{take_more, take_all}
use Rattle.std.proofs.lemmas.Bool.{lt-ltb}
use Rattle.exercise_model.specs.Entry.{Entry}
use Rattle.exercise_model.specs.Recording.{PlainRecording, IsRecording}
use Rattle.exercise_model.specs.History.{History, event_of, past, log_of}
use Rattle.exercise_model.specs.Run.{IsRun, Explains, CoversPrefixes}
use Rattle.exercise_model.proofs.Offered.{entry_station, within, all_events, fewer_events, past_within, length-past}
use Rattle.exercise_check.specs.declared.certificate.Step.{Step}
use Rattle.exercise_check.specs.Sequence.{sequence_of}
use Rattle.exercise_check.specs.Goodness.{no_step, GoodBelow, IsGood}
use Rattle.exercise_check.proofs.Sequences.{sequence_of-snoc, sequence_of-none}
use Rattle.exercise_check.proofs.Goodness.{good_step, steps_cover}

-- what is order_of after one good step more
sequence_of_next : (r : PlainRecording) (steps : List Step) (n : ℕ) (e : Entry) → n < length steps
    → slice_get r.entries (slice_index_or steps n no_step).place ≡ Some e → sequence_of r (take (suc n) steps) ≡ event_of e ∷ sequence_of r (take n steps)
sequence_of_next r steps n e within at =
    ap (λ k. sequence_of r (take k steps)) (sym (add-one n)) ∙ ap (sequence_of r) (take_more steps n no_step within)
    ∙ sequence_of-snoc r (take n steps) (slice_index_or steps n no_step)
    ∙ ap (λ o. option_map_or (λ e. event_of e ∷ sequence_of r (take n steps)) o (sequence_of r (take n steps))) at

-- what good steps record: a run, with an event for each, at stations that there are
pub record IsSound (r : PlainRecording) (h : History) (n : ℕ) : Type 0 where
  pub run : IsRun r.setting h
  pub count : length h ≡ n
  pub stations : within (length r.setting.stations) h ≡ true

sound_none : (r : PlainRecording) → IsSound r (sequence_of r []) 0
sound_none r = subst (λ h. IsSound r h 0) (sym (sequence_of-none r)) (record { run = tt; count = refl; stations = refl })

pub sound_steps : (r : PlainRecording) → IsRecording r → (steps : List Step) (n : ℕ) → n ≤ length steps → GoodBelow r steps n
    → IsSound r (sequence_of r (take n steps)) n
sound_steps r limits steps zero le good = sound_none r
sound_steps r limits steps (suc n) le good =
    let before = sound_steps r limits steps n (omega arith) (λ k l. good k (omega arith)) in
    let here = good_step r (take n steps) (slice_index_or steps n no_step) (good n (omega arith)) in
    subst (λ h. IsSound r h (suc n)) (sym (sequence_of_next r steps n here.0 (omega arith) here.1.at)) (record {
      run = (before.run, here.1.allowed);
      count = ap suc before.count;
      stations = ap (λ b. b && within (length r.setting.stations) (sequence_of r (take n steps)))
          (lt-ltb _ _ (entry_station (length r.setting.stations) r.entries _ here.0 limits.each_entry here.1.at)) ∙ before.stations;
    })

-- good steps record a run that covers prefixes
pub good_covers : (r : PlainRecording) → IsRecording r → (steps : List Step) → GoodBelow r steps (length steps) → CoversPrefixes r (sequence_of r steps)
good_covers r limits steps good =
    let whole : take (length steps) steps ≡ steps = take_all (length steps) steps (omega arith) in
    subst (λ xs. CoversPrefixes r (sequence_of r xs)) whole (record {
      run = (sound_steps r limits steps (length steps) (omega arith) good).run;
      logs = steps_cover r steps (length steps) (omega arith) good;
    })

pub good_sound : (r : PlainRecording) → IsRecording r → (steps : List Step) → GoodBelow r steps (length steps)
    → IsSound r (sequence_of r steps) (length steps)
good_sound r limits steps good =
    subst (λ xs. IsSound r (sequence_of r xs) (length steps)) (take_all (length steps) steps (omega arith))
    (sound_steps r limits steps (length steps) (omega arith) good)

-- A GOOD CERTIFICATE EXPLAINS
pub good_explains : (r : PlainRecording) → IsRecording r → (steps : List Step) → IsGood r steps → Explains r (sequence_of r steps)
unfolding log_of
good_explains r limits steps good =
    let sound = good_sound r limits steps good.good in
    let covers = good_covers r limits steps good.good in
    record {
      run = covers.run;
      logs = all_events (length r.setting.stations) (sequence_of r steps) (past r.entries) sound.stations (past_within r limits) covers.logs
          (sound.count ∙ good.count ∙ sym (length-past r.entries));
    }

-- good steps are no more than entries
pub good_few : (r : PlainRecording) → IsRecording r → (steps : List Step) → GoodBelow r steps (length steps) → length steps ≤ length r.entries
unfolding log_of
good_few r limits steps good =
    let sound = good_sound r limits steps good in
    let covers = good_covers r limits steps good in
    omega (
      arith,
      sound.count,
      length-past r.entries,
      fewer_events (length r.setting.stations) (sequence_of r steps) (past r.entries) sound.stations
          (past_within r limits) covers.logs,
    )
