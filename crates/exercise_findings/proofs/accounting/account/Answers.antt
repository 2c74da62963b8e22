use Rattle.std.proofs.Common.{ℕ, [], None, length, map, Vec, Global, refl, ap, ◌∙◌}
use Rattle.std.specs.Prelude.{slice_index_or}
use Rattle.exercise_model.specs.Account.{pair_of, change_behind}
use Rattle.exercise_model.proofs.Offered.{states-all}
use Rattle.exercise_findings.proofs.Columns.{short_map}
use Rattle.exercise_findings.specs.Earlier.{request_in}
use Rattle.exercise_findings.specs.Number.{entry_of}
use Rattle.exercise_findings.proofs.Ables.{behind_past}
use Rattle.exercise_findings.proofs.EarlierEntries.{requests_so_far}
use Rattle.exercise_findings.proofs.Looks.{others_whole, pair_past}
use Rattle.exercise_findings.proofs.accounting.account.Goals as goal

pub returns : goal.returns
returns g c =
    let r = g.L.ExerciseLog.recording c.args.log.now in
    let n = length r.entries in
    record {
      states = λ s. ap (λ checked. slice_index_or checked.states s []) c.of.ensures ∙ ap (λ xs. slice_index_or xs s []) c.in_ok-told.ensures.states ∙ states-all r s;
      pairs = λ i. ap (λ checked. slice_index_or checked.pairs i None) c.of.ensures
          ∙ ap (λ (earlier : Vec ℕ Global). slice_index_or (map request_in earlier.items) i None) c.into_back_references-earlier.ensures.earlier
          ∙ short_map request_in (pair_of r) 4294967295 n i c.args.found.earlier.items refl (requests_so_far r n c.args.found.earlier.items c.requires.earlier) (pair_past r);
      causes = λ i. ap (λ checked. slice_index_or checked.causes i None) c.of.ensures
          ∙ short_map entry_of (change_behind r) 4294967295 n i c.in_ok-told.told.1.items refl c.in_ok-told.ensures.changes (behind_past r);
      others = ap (λ checked. checked.others) c.of.ensures ∙ c.into_back_references-earlier.ensures.others ∙ c.requires.others ∙ others_whole r;
    }
