use Rattle.std.proofs.Common.{◌≡◌, ℕ, length, sym, ap, ◌∙◌, subst, arith}
use Rattle.std.specs.Prelude.{slice_index_or}
use Rattle.std.proofs.lemmas.List.{get_or-replicate, length-replicate}
use Rattle.exercise_model.specs.Recording.{PlainRecording}
use Rattle.exercise_review.specs.Noted.{IsNoted}
use Rattle.exercise_review.specs.Records.{entry_places}
use Rattle.exercise_review.specs.Register.{key_at}
use Rattle.exercise_review.specs.Sourced.{AreSources}
use Rattle.exercise_review.proofs.Tallies.{none_counted}
use Rattle.exercise_review.proofs.register.noted_of.Goals as goal

pub loop-entry-init : goal.loop-entry-init
loop-entry-init g c =
    let r : PlainRecording = c.args.findings.now in
    let stations : ℕ = c.station_count.result in
    let items = c.in_ok-vec.ensures.items_if_clones_equal (λ y same. same) in
    let count = c.station_count.ensures.count ∙ ap (λ (x : PlainRecording). length x.setting.stations) c.log-log.ensures in
    record {
      noted = record {
        few = omega (arith, c.no_entry_chains.ensures.none);
        orders = c.no_entry_chains.ensures.kept (key_at r);
        records = record {
          stations = ap length items ∙ length-replicate stations 0 ∙ count;
          each = λ s l. ap (λ xs. slice_index_or xs s 0) items ∙ get_or-replicate stations s 0 0 (omega (arith, l, count)) ∙ sym (none_counted (entry_places r) s);
        };
      };
      sources = subst (λ (x : PlainRecording). AreSources x 0 c.no_sources-sources.result) c.log-log.ensures c.no_sources-sources.ensures;
    }

pub returns-clause-noted : goal.returns-clause-noted
returns-clause-noted g c =
    let r : PlainRecording = c.args.findings.now in
    let count = c.entry_count-entry-end.ensures.count ∙ ap (λ (x : PlainRecording). length x.entries) c.log-log.ensures in
    let end : c.loop-entry.entry ≡ length r.entries = omega (arith, c.loop-entry-test.false, c.loop-entry.auto.entry-end, count) in
    subst (λ n. IsNoted r n c.loop-entry.noted) end c.loop-entry.invariant.noted

pub returns-clause-sources : goal.returns-clause-sources
returns-clause-sources g c =
    let r : PlainRecording = c.args.findings.now in
    let count = c.entry_count-entry-end.ensures.count ∙ ap (λ (x : PlainRecording). length x.entries) c.log-log.ensures in
    let end : c.loop-entry.entry ≡ length r.entries = omega (arith, c.loop-entry-test.false, c.loop-entry.auto.entry-end, count) in
    subst (λ n. AreSources r n c.loop-entry.sources) end c.loop-entry.invariant.sources
