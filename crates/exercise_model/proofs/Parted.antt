-- A part of what is explained is explained, read as open.
use Rattle.std.proofs.Common.{◌≡◌, ℕ, suc, ◌<◌, ◌≤◌, List, [], ◌∷◌, length, get_or, cond, Option, Some, None, Bool, true, false, inl, inr, refl, sym, ap, ◌∙◌, subst, arith}
use Rattle.std.specs.Prelude.{◌==◌, ◌||◌, nat_eq, option_and_then}
use Rattle.std.specs.List.{list_any}
use Rattle.std.specs.Option.{option_map_or}
use Rattle.std.proofs.lemmas.Bool.{cases_Bool, cases_eq, cases_lt, eqb-true, eq-eqb, ne_eqb, false≢true}
use Rattle.std.proofs.lemmas.List.{nil_from_length}
use Rattle.std.proofs.lemmas.List.Folds.{list_any_at}
use Rattle.std.proofs.lemmas.Option.{slice_get_within, get_or_from_slice_get, slice_get-get_or}
use Rattle.std.proofs.lemmas.Slice.Eq.{bytes_eq-Decides}
use Rattle.siman_pdus.specs.declared.pdu.Pdu.{Pdu}
use Rattle.exercise_model.specs.declared.cause.Cause.{Cause}
use Rattle.exercise_model.specs.Station.{StationData}
use Rattle.exercise_model.specs.Setting.{SettingData, nowhere, station_in, is_from, is_recorded}
use Rattle.exercise_model.specs.Recording.{PlainRecording, IsRecording}
use Rattle.exercise_model.specs.History.{Event, Send, Get, Tell, History, station_of, past, log_at, log_of, station_at}
use Rattle.exercise_model.specs.Meaning.{meaning}
use Rattle.exercise_model.specs.State.{state_after}
use Rattle.exercise_model.specs.Cause.{first_cause, tell_rows, send_cause, get_cause, sends, was_sent, cause_of, IsAllowed}
use Rattle.exercise_model.specs.Run.{IsRun, Explains}
use Rattle.exercise_model.specs.Part.{at_station, index_in_part, history_of_part, read_open, IsPartOf}
use Rattle.exercise_model.proofs.Counting.{no_log, within_past}
use Rattle.exercise_model.proofs.Sentences.{allowed_at, sender_before, own_address}
use Rattle.exercise_model.proofs.Places.{first_found}
use Rattle.exercise_model.proofs.Distinct.{own_rising, one_station, one_sender}
use Rattle.exercise_model.proofs.Wholes.{any_at, first_is}
use Rattle.exercise_model.proofs.Confluence.{log_at-own, sent_from}
use Rattle.exercise_model.proofs.Heard.{open_is_heard, sent_is_allowed, unsent_is_never_sent}
use Rattle.exercise_model.proofs.Moved.{moved, sent_moved, state_moved, sending_moved}

-- ---- the logs of a part

moved_station : (s : ℕ) (v : Event) → station_of (at_station s v) ≡ s
moved_station s (Send t b) = refl
moved_station s (Get t b) = refl
moved_station s (Tell t e y) = refl

log_here : (s : ℕ) (v : Event) (h : History) → station_of v ≡ s → log_at s (v ∷ h) ≡ v ∷ log_at s h
log_here s v h here = subst (λ i. log_at i (v ∷ h) ≡ v ∷ log_at i h) here (log_at-own v h)

log_elsewhere : (s : ℕ) (v : Event) (h : History) → (station_of v ≡ s → ⊥) → log_at s (v ∷ h) ≡ log_at s h
unfolding log_at
log_elsewhere s v h apart = ap (λ b. cond b (v ∷ log_at s h) (log_at s h)) (ne_eqb (station_of v) s apart)

-- no two of so many numbers have one index
abbrev AreApart : (ℕ → ℕ) → ℕ → Type 0
AreApart index n = (s t : ℕ) → s < n → t < n → index s ≡ index t → s ≡ t

-- EACH STATION OF A PART HAS ITS LOG in what the history holds of the part
log_kept : (index : ℕ → ℕ) (n : ℕ) → AreApart index n → (h : History) (s : ℕ) → s < n
    → log_at s (history_of_part index n h) ≡ moved s (log_at (index s) h)
unfolding history_of_part log_at
log_kept index n apart [] s within = refl
log_kept index n apart (v ∷ h) s within =
    let t = station_of v in
    let part = history_of_part index n h in
    let rest = log_kept index n apart h s within in
    let Step : Option ℕ → History = λ o. option_map_or (λ i. at_station i v ∷ part) o part in
    elim (cases_eq t (index s)) [
      | inl here ↦ let found : index_in_part index n t ≡ Some s =
          first_is (λ i. index i == t) n s within (eq-eqb (index s) t (sym here))
          (λ k below. ne_eqb (index k) t (λ same. let one : k ≡ s = apart k s (omega arith) within (same ∙ here) in omega arith)) in
          ap (λ o. log_at s (Step o)) found ∙ log_here s (at_station s v) part (moved_station s v) ∙ ap (λ l. at_station s v ∷ l) rest
          ∙ ap (moved s) (sym (log_here (index s) v h here))
      | inr other ↦ let after = ap (moved s) (sym (log_elsewhere (index s) v h other)) in
          elim (index_in_part index n t) as (λ o. index_in_part index n t ≡ o → log_at s (Step o) ≡ moved s (log_at (index s) (v ∷ h))) [
            | None ↦ λ _. rest ∙ after
            | Some i ↦ λ found.
                let at : index i ≡ t = eqb-true (index i) t (first_found (λ k. index k == t) n i found).passes in
                log_elsewhere s (at_station i v) part (λ same. other (sym at ∙ ap index (sym (moved_station i v) ∙ same))) ∙ rest ∙ after
          ] refl
    ]

-- and no other station has one
log_beyond : (index : ℕ → ℕ) (n : ℕ) (h : History) (s : ℕ) → n ≤ s → log_at s (history_of_part index n h) ≡ []
unfolding history_of_part log_at
log_beyond index n [] s beyond = refl
log_beyond index n (v ∷ h) s beyond =
    let t = station_of v in
    let part = history_of_part index n h in
    let rest = log_beyond index n h s beyond in
    elim (index_in_part index n t) as (λ o. index_in_part index n t ≡ o → log_at s (option_map_or (λ i. at_station i v ∷ part) o part) ≡ []) [
      | None ↦ λ _. rest
      | Some i ↦ λ found.
          let below : i < n = (first_found (λ k. index k == t) n i found).below in
          log_elsewhere s (at_station i v) part (λ same. let at : i ≡ s = sym (moved_station i v) ∙ same in omega arith) ∙ rest
    ] refl

-- ---- the stations of a part

stations_apart : (part whole : PlainRecording) (index : ℕ → ℕ) → IsRecording part → IsPartOf part whole index → AreApart index (length part.setting.stations)
stations_apart part whole index good is s t under within same =
    let ss = part.setting.stations in
    let os = whole.setting.stations in
    let here = is.stations s (get_or ss s nowhere) (slice_get-get_or ss s nowhere under) in
    let there = is.stations t (get_or ss t nowhere) (slice_get-get_or ss t nowhere within) in
    let one : get_or ss s nowhere ≡ get_or ss t nowhere =
    sym (get_or_from_slice_get os (index s) (get_or ss s nowhere) nowhere here) ∙ ap (λ i. get_or os i nowhere) same
    ∙ get_or_from_slice_get os (index t) (get_or ss t nowhere) nowhere there in
    one_station ss (own_rising part.setting good.setting) s t under within one

-- a station of a part is the one of its index
own_station : (part whole : PlainRecording) (index : ℕ → ℕ) → IsPartOf part whole index → (s : ℕ) → s < length part.setting.stations
    → station_at part s ≡ station_at whole (index s)
own_station part whole index is s within =
    let o = station_at part s in
    sym (get_or_from_slice_get whole.setting.stations (index s) o nowhere (is.stations s o (slice_get-get_or part.setting.stations s nowhere within)))

-- The station of a part that a PDU comes from.
record IsOrigin (w : SettingData) (p : Pdu) : Type 0 where
  index : ℕ
  within : index < length w.stations
  own : is_from (station_in w index).address p ≡ true

any_station : (test : StationData → Bool) (ss : List StationData) → list_any test ss ≡ true → (i : ℕ) × (i < length ss) × (test (get_or ss i nowhere) ≡ true)
any_station test [] some = absurd cc
any_station test (s ∷ ss) some =
    elim (cases_Bool (test s)) [
      | inl here ↦ (0, omega arith, here)
      | inr other ↦ let rest = any_station test ss (ap (λ b. b || list_any test ss) (sym other) ∙ some) in (suc rest.0, omega (arith, rest.1), rest.2)
    ]

origin : (w : SettingData) (p : Pdu) → is_recorded w p ≡ true → IsOrigin w p
unfolding is_recorded
origin w p recorded =
    let at = any_station (λ (o : StationData). is_from o.address p) w.stations recorded in record { index = at.0; within = at.1; own = at.2 }

-- ---- runs

-- What a run of the whole is, and what is said of it.
record IsRunOf (part whole : PlainRecording) (index : ℕ → ℕ) (h : History) : Type 0 where
  good : IsRecording part
  is : IsPartOf part whole index
  run : IsRun whole.setting h
  -- no other station did anything
  quiet : (t : ℕ) → length whole.setting.stations ≤ t → log_at t h ≡ []

-- what is sent in the name of a station of the part was sent by it
sent_in_part : (part whole : PlainRecording) (index : ℕ → ℕ) (h : History) (b : List ℕ) (p : Pdu) → IsRunOf part whole index h
    → meaning whole.setting.exercise b ≡ Some p → IsOrigin part.setting p → was_sent b h ≡ true
    → was_sent b (history_of_part index (length part.setting.stations) h) ≡ true
unfolding was_sent
sent_in_part part whole index h b p of_run meant from sent =
    let s = from.index in
    let n = length part.setting.stations in
    let os = whole.setting.stations in
    let at = sender_before b h sent in
    let t = at.0 in
    let by = own_address whole at.1 t b p (allowed_at whole.setting h at.1 (Send t b) of_run.run at.2).1 meant in
    let logged : was_sent b (log_at t h) ≡ true =
    subst (λ k. list_any (sends b) (log_at t k) ≡ true) at.2.1 (any_at (sends b) (Send t b) at.2.0 at.1 ((bytes_eq-Decides b b).1 refl)) in
    let mine : is_from (station_at whole (index s)).address p ≡ true =
    subst (λ (o : StationData). is_from o.address p ≡ true) (own_station part whole index of_run.is s from.within) from.own in
    let there = of_run.is.stations s (station_at part s) (slice_get-get_or part.setting.stations s nowhere from.within) in
    let known = slice_get_within os (index s) (station_at part s) there in
    elim (cases_lt t (length os)) [
      | inl within ↦ let same : t ≡ index s = one_sender os of_run.is.rising p t (index s) within known by mine in
          let kept = log_kept index n (stations_apart part whole index of_run.good of_run.is) h s from.within in
          sent_from b s (history_of_part index n h)
          (ap (was_sent b) kept ∙ sent_moved b s (log_at (index s) h) ∙ ap (λ i. was_sent b (log_at i h)) (sym same) ∙ logged)
      | inr beyond ↦ absurd (false≢true (sym (ap (list_any (sends b)) (of_run.quiet t beyond)) ∙ logged))
    ]

-- what the whole may receive from a station of the part was sent
was_sent_in_whole : (part whole : PlainRecording) (index : ℕ → ℕ) (h : History) (t : ℕ) (b : List ℕ) (p : Pdu) → IsRunOf part whole index h
    → meaning whole.setting.exercise b ≡ Some p → IsOrigin part.setting p → IsAllowed whole.setting h (Get t b) → was_sent b h ≡ true
unfolding is_recorded
was_sent_in_whole part whole index h t b p of_run meant from allowed =
    let s = from.index in
    let there = of_run.is.stations s (station_at part s) (slice_get-get_or part.setting.stations s nowhere from.within) in
    let mine : is_from (station_at whole (index s)).address p ≡ true =
    subst (λ (o : StationData). is_from o.address p ≡ true) (own_station part whole index of_run.is s from.within) from.own in
    let recorded : is_recorded whole.setting p ≡ true =
    list_any_at (λ (o : StationData). is_from o.address p) whole.setting.stations (index s) nowhere (slice_get_within whole.setting.stations (index s) (station_at part s) there) mine in
    elim (cases_Bool (was_sent b h)) [
      | inl sent ↦ sent
      | inr unsent ↦ let never = unsent_is_never_sent whole.setting h t b p meant recorded unsent in absurd (cc (never, allowed))
    ]

-- what a station's own log says against an event of it is the same
log_alike : (part whole : PlainRecording) (index : ℕ → ℕ) (h : History) (s : ℕ) (F : ℕ → StationData → History → Option Cause) → IsRunOf part whole index h
    → s < length part.setting.stations → ((x : ℕ) (o : StationData) (log : History) → F x o (moved s log) ≡ F x o log)
    → F part.setting.exercise (station_at part s) (log_at s (history_of_part index (length part.setting.stations) h))
    ≡ F whole.setting.exercise (station_at whole (index s)) (log_at (index s) h)
log_alike part whole index h s F of_run within same =
    let n = length part.setting.stations in
    let o = station_at part s in
    let log = log_at s (history_of_part index n h) in
    ap (λ x. F x o log) of_run.is.exercise
    ∙ ap (λ (u : StationData). F whole.setting.exercise u log) (own_station part whole index of_run.is s within)
    ∙ ap (F whole.setting.exercise (station_at whole (index s))) (log_kept index n (stations_apart part whole index of_run.good of_run.is) h s within)
    ∙ same whole.setting.exercise (station_at whole (index s)) (log_at (index s) h)

-- WHAT THE WHOLE ALLOWS A STATION OF THE PART, THE PART ALLOWS, read as open
event_allowed : (part whole : PlainRecording) (index : ℕ → ℕ) (h : History) (s : ℕ) (v : Event) → IsRunOf part whole index h
    → s < length part.setting.stations → index s ≡ station_of v → IsAllowed whole.setting h v
    → IsAllowed (read_open part).setting (history_of_part index (length part.setting.stations) h) (at_station s v)
unfolding cause_of is_recorded
event_allowed part whole index h s (Send t b) of_run within at allowed =
    log_alike part whole index h s (λ x o log. option_and_then (send_cause x o log) (meaning x b)) of_run within (λ x o log. sending_moved x o s log b)
    ∙ ap (λ i. option_and_then (send_cause whole.setting.exercise (station_at whole i) (log_at i h)) (meaning whole.setting.exercise b)) at ∙ allowed
event_allowed part whole index h s (Tell t e y) of_run within at allowed =
    log_alike part whole index h s (λ x o log. first_cause (tell_rows y (state_after x o log e))) of_run within
    (λ x o log. ap (λ z. first_cause (tell_rows y z)) (state_moved x o s log e))
    ∙ ap (λ i. first_cause (tell_rows y (state_after whole.setting.exercise (station_at whole i) (log_at i h) e))) at ∙ allowed
event_allowed part whole index h s (Get t b) of_run within at allowed =
    let w = (read_open part).setting in
    let k = history_of_part index (length part.setting.stations) h in
    elim (meaning w.exercise b) as (λ o. meaning w.exercise b ≡ o → IsAllowed w k (Get s b)) [
      | None ↦ λ none. ap (option_and_then (get_cause w k b)) none
      | Some p ↦ λ meant. elim (cases_Bool (is_recorded w p)) [
        | inl recorded ↦ let from = origin part.setting p recorded in
            let means : meaning whole.setting.exercise b ≡ Some p = ap (λ x. meaning x b) (sym of_run.is.exercise) ∙ meant in
            sent_is_allowed w k s b p meant recorded
            (sent_in_part part whole index h b p of_run means from (was_sent_in_whole part whole index h t b p of_run means from allowed))
        | inr outside ↦ open_is_heard w k s b p meant outside refl
      ]
    ] refl

quiet_before : (t : ℕ) (v : Event) (h : History) → log_at t (v ∷ h) ≡ [] → log_at t h ≡ []
unfolding log_at
quiet_before t v h =
    elim (nat_eq (station_of v) t) as (λ b. cond b (v ∷ log_at t h) (log_at t h) ≡ [] → log_at t h ≡ []) [ true ↦ λ e. absurd cc | false ↦ λ e. e ]

-- WHAT A RUN HOLDS OF A PART IS A RUN OF IT
part_run : (part whole : PlainRecording) (index : ℕ → ℕ) (h : History) → IsRunOf part whole index h
    → IsRun (read_open part).setting (history_of_part index (length part.setting.stations) h)
unfolding history_of_part
part_run part whole index [] of_run = tt
part_run part whole index (v ∷ h) of_run =
    let n = length part.setting.stations in
    let t = station_of v in
    let k = history_of_part index n h in
    let before : IsRunOf part whole index h =
    record { good = of_run.good; is = of_run.is; run = of_run.run.0; quiet = λ u beyond. quiet_before u v h (of_run.quiet u beyond) } in
    let rest = part_run part whole index h before in
    elim (index_in_part index n t) as (λ o. index_in_part index n t ≡ o → IsRun (read_open part).setting (option_map_or (λ i. at_station i v ∷ k) o k)) [
      | None ↦ λ _. rest
      | Some i ↦ λ found.
          let first = first_found (λ s. index s == t) n i found in
          (rest, event_allowed part whole index h i v before first.below (eqb-true (index i) t first.passes) of_run.run.1)
    ] refl

-- A PART OF WHAT IS EXPLAINED IS EXPLAINED
pub part_explained : (part whole : PlainRecording) (index : ℕ → ℕ) (h : History) → IsRecording part → IsPartOf part whole index → Explains whole h
    → Explains (read_open part) (history_of_part index (length part.setting.stations) h)
unfolding log_of
part_explained part whole index h good is explains =
    let n = length part.setting.stations in
    let os = whole.setting.stations in
    let silent : (t : ℕ) → length os ≤ t → log_at t h ≡ [] =
    λ t beyond. explains.logs t ∙ nil_from_length (log_at t (past whole.entries)) (no_log (length os) (past whole.entries) t (within_past (length os) whole.entries is.each_entry) beyond) in
    let of_run : IsRunOf part whole index h = record { good = good; is = is; run = explains.run; quiet = silent } in
    record {
      run = part_run part whole index h of_run;
      logs = λ s. elim (cases_lt s n) [
        | inl within ↦ log_kept index n (stations_apart part whole index good is) h s within ∙ ap (moved s) (explains.logs (index s)) ∙ sym (is.logs s within)
        | inr beyond ↦ log_beyond index n h s beyond
            ∙ sym (nil_from_length (log_at s (past part.entries)) (no_log n (past part.entries) s (within_past n part.entries good.each_entry) beyond))
      ];
    }
