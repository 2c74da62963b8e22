use Rattle.std.proofs.Common.{◌≡◌, ◌<◌, ◌≤◌, ◌+◌, ℕ, length, true, ap, ◌∙◌, subst, arith}
use Rattle.dis_records.specs.Entity.{site_application_of, is_addressed}
use Rattle.exercise_model.specs.Recording.{PlainRecording}
use Rattle.exercise_model.specs.History.{station_at}
use Rattle.exercise_review.specs.Parties.{number_of}
use Rattle.exercise_review.proofs.Stationed.{number_at, only_at}
use Rattle.exercise_review.proofs.parties.addressed_among.Goals as goal

pub returns-then-at-count-clause-all : goal.returns-then-at-count-clause-all
returns-then-at-count-clause-all g c =
    let r : PlainRecording = g.L.ExerciseLog.recording c.log-log.result.now in
    let at : ℕ = c.stations_below-at.result in
    let plain = c.names_one.ensures c.if-not-names_one.false in
    let number : c.number_of.result ≡ number_of (site_application_of c.args.target) = c.number_of.ensures.number ∙ ap number_of c.site_application.ensures in
    subst (λ (x : PlainRecording). (s : ℕ) → s < length x.setting.stations → is_addressed c.args.target (station_at x s).address ≡ true → (at ≤ s) × (s < at + 1))
    c.log-log.ensures
    (λ s l here.
    let same = only_at r c.station_count-count.ensures.limits c.args.target plain.0 plain.1 at
    (λ t below. subst (λ n. number_at r t < n) number (c.stations_below-at.ensures.below t below))
    (λ t from within. subst (λ n. n ≤ number_at r t) number (c.stations_below-at.ensures.from t from within))
    s l here in
    (omega (arith, same), omega (arith, same)))
