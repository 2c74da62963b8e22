-- What stations at their lines recorded, from the start of the recording on.
use Rattle.std.proofs.Common.{◌≡◌, ℕ, ◌<◌, zero, suc, List, [], ◌∷◌, length, get_or, refl, ap, sym, ◌∙◌, subst, inl, inr, arith, ◌⊎◌}
use Rattle.std.specs.Prelude.{Bool, true, false, ◌==◌, Option, Some, None, slice_get}
use Rattle.std.specs.List.{AllByRecursion}
use Rattle.std.proofs.lemmas.Bool.Decides.{nat_tests}
use Rattle.std.proofs.lemmas.Option.{slice_get-get_or}
use Rattle.exercise_model.specs.Entry.{Entry}
use Rattle.exercise_model.specs.Setting.{SettingData}
use Rattle.exercise_recording.specs.Writer.{WriterState, Starts}
use Rattle.siman_stations.specs.declared.turn.Node.{Node}
use Rattle.siman_lines.specs.declared.station_at_line.StationAtLine.{StationAtLine}
use Rattle.siman_lines.specs.AtLines.{Telling, AtLines, Are, Leads, Follows, AreFresh, HasRecorded}
use Rattle.siman_lines.specs.Calls.{IsFresh, Stations, HasStation, AreBegun, ComesOfCalls}
use Rattle.siman_lines.specs.KeptAtLine.{IsWritten}
use Rattle.siman_lines.specs.LineDatagrams.{Datagrams}
use Rattle.siman_lines.proofs.Coming.{comes}

-- all numbers below one

abbrev upto : ℕ → List ℕ
upto zero = []
upto (suc n) = n ∷ upto n

last_or_below : (s n : ℕ) → s < suc n → (s ≡ n) ⊎ (s < n)
last_or_below s n h = by (s == n) refl where
  by : (b : Bool) → (s == n) ≡ b → (s ≡ n) ⊎ (s < n)
  by true e = inl (grind (arith, nat_tests))
  by false e = inr (grind (arith, nat_tests))

either : {s n : ℕ} {P : Type 0} → (s ≡ n) ⊎ (s < n) → (s < n → P) → (s ≡ n) ⊎ P
either (inl e) below = inl e
either (inr h) below = inr (below h)

has_upto : (s n : ℕ) → s < n → HasStation s (upto n)
has_upto s zero h = absurd (omega (arith, h))
has_upto s (suc n) h = either (last_or_below s n h) (has_upto s n)

have_upto : (n : ℕ) (calls : List ℕ) → AllByRecursion (λ s. s < n) calls → AllByRecursion (λ s. HasStation s (upto n)) calls
have_upto n [] all = tt
have_upto n (c ∷ cs) all = (has_upto c n all.0, have_upto n cs all.1)

each_upto : (P : ℕ → Type 0) (n : ℕ) → ((s : ℕ) → s < n → P s) → AllByRecursion P (upto n)
each_upto P zero each = tt
each_upto P (suc n) each = (each n (omega arith), each_upto P n (λ s h. each s (omega (arith, h))))

-- the stations of posts

abbrev node_or : {L : Type 0} → Node → Option (StationAtLine L) → Node
node_or n None = n
node_or n (Some p) = p.node

abbrev handed_or : {L : Type 0} → Telling L → Option (StationAtLine L) → Option Datagrams
handed_or told None = None
handed_or told (Some p) = told.sent p.line

there_or : {L : Type 0} (ps : List (StationAtLine L)) (p : StationAtLine L) (s : ℕ) → s < length ps → (q : StationAtLine L) × (slice_get ps s ≡ Some q)
there_or ps p s h = (get_or ps s p, slice_get-get_or ps s p h)

pub recorded_at_lines : {L : Type 0} (told : Telling L) (before : Option (List ℕ)) (w : SettingData) (recorder : WriterState) (ps : List (StationAtLine L)) (new : AtLines L)
    → AreFresh told w ps → Starts before w recorder → Follows told (record { stations = ps; recorder = recorder }) new
    → (es : List Entry) × HasRecorded before w new.recorder es
recorded_at_lines told before w recorder [] new fresh starts follows = absurd (omega (arith, fresh.some))
recorded_at_lines {L = L} told before w recorder (o ∷ os) new fresh starts follows =
    (came.entries, record { setting = ap (λ (r : WriterState). r.setting) (sym is_new) ∙ came.setting; written = subst (λ (r : WriterState). IsWritten before r came.entries) is_new came.kept.written; run = came.run })
  where
    x : Stations
    x = record { node = λ s. node_or o.node (slice_get (o ∷ os) s); handed = λ s. handed_or told (slice_get (o ∷ os) s); recorder = recorder }

    are : Are told (record { stations = o ∷ os; recorder = recorder }) x
    are = record {
      posts = λ s p there. record {
        index = fresh.index s p there;
        node = ap (node_or o.node) there;
        handed = ap (handed_or told) there;
      };
      recorder = refl;
    }

    leads : Leads told x (length (o ∷ os)) new
    leads = follows.leads x are

    is_new : leads.after.recorder ≡ new.recorder
    is_new = leads.are.recorder

    begun : AreBegun before w (upto (length (o ∷ os))) x
    begun = record {
      setting = fresh.setting;
      starts = starts;
      fresh = each_upto (λ s. IsFresh s (x.node s) w (x.handed s)) (length (o ∷ os)) (λ s h. at s (there_or (o ∷ os) o s h));
      all = λ s h. has_upto s (length (o ∷ os)) (subst (λ (n : ℕ). s < n) (sym fresh.count) h);
    } where
      at : (s : ℕ) → (q : StationAtLine L) × (slice_get (o ∷ os) s ≡ Some q) → IsFresh s (x.node s) w (x.handed s)
      at s (q, there) = rw (there) (fresh.fresh s q there)

    came : ComesOfCalls before w (upto (length (o ∷ os))) leads.after
    came = comes before w (upto (length (o ∷ os))) leads.calls x leads.after begun (have_upto (length (o ∷ os)) leads.calls leads.within) leads.made
