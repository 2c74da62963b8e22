-- A body whose parts are whole stands as it is read, and one that stands is whole and read.
use Rattle.std.proofs.Common.{◌≡◌, ℕ, ◌+◌, ◌*◌, ◌≤◌, List, ◌++◌, length, map, replicate, refl, ap, subst, ◌∙◌, arith}
use Rattle.std.specs.Int.{w32}
use Rattle.std.proofs.lemmas.List.{length-map}
use Rattle.dis_records.specs.declared.kind.Kind.{Kind}
use Rattle.dis_records.specs.declared.kind.Kind.TheVariants as kinds
use Rattle.dis_records.specs.declared.clock_time.ClockTime.{ClockTime}
use Rattle.dis_records.specs.declared.datum.FixedDatum.{FixedDatum}
use Rattle.dis_records.specs.Layout.{ArePlacedAt, size, total, spelled_number}
use Rattle.dis_records.specs.Datum.{Datum, canonical, fixed_layouts, variable_layouts, id_layouts}
use Rattle.dis_records.specs.Records.{fixed_at, variable_at, variable_sizes, ids_at}
use Rattle.dis_records.specs.Views.{DatumsFit, IdsFit, variable_start, ids_start, shown_datums, shown_ids}
use Rattle.dis_records.proofs.Offered.{size-append, join, split, size-fixed_layouts, length-fixed_at, fixed_stand, fixed_is, length-variable_at, variable_stand, variable_is, size-id_layouts, length-ids_at, ids_stand, ids_are}
use Rattle.siman_pdus.specs.DatumLists.{DatumLists, IdLists}
use Rattle.siman_pdus.specs.declared.pdu.Body.{Body}
use Rattle.siman_pdus.specs.declared.pdu.Body.TheVariants.{CreateEntity, RemoveEntity, StartResume, StopFreeze, Acknowledge, ActionRequest, ActionResponse, DataQuery, SetData, DataPdu, EventReport, Comment}
use Rattle.siman_pdus.specs.Spelling.{datums_layout, ids_layout, body_kind, body_layout}
use Rattle.siman_pdus.specs.Shape.{datum_sizes, id_sizes, IsWhole}
use Rattle.siman_pdus.specs.Reading.{datums_at, id_lists_at, shown_body, body_at}
use Rattle.siman_pdus.proofs.Ends.{total-append, total-replicate}

-- ---- datums

pub total-datum_sizes : (counts : ℕ) (b : List ℕ)
    → total (datum_sizes counts b) ≡ 8 * spelled_number w32 counts b + total (variable_sizes (spelled_number w32 (counts + 4) b) (variable_start counts b) b)
total-datum_sizes counts b =
    let ms : List ℕ = replicate (spelled_number w32 counts b) 8 in
    let ns : List ℕ = variable_sizes (spelled_number w32 (counts + 4) b) (variable_start counts b) b in
    omega (arith, total-append ms ns, total-replicate (spelled_number w32 counts b) 8)

pub datums_fit : (counts : ℕ) (b : List ℕ) → counts + 8 + total (datum_sizes counts b) ≤ length b → DatumsFit counts b
datums_fit counts b le =
    let e = total-datum_sizes counts b in record { counts_fit = omega arith; fixed_fit = omega arith; variable_fit = omega arith }

-- what is read of datums stands there
pub datums_stand : (counts : ℕ) (b : List ℕ)
    → ArePlacedAt (datums_layout (datums_at counts b)) counts b × (size (datums_layout (datums_at counts b)) ≡ 8 + total (datum_sizes counts b))
unfolding shown_datums
datums_stand counts b =
    let m = spelled_number w32 counts b in
    let n = spelled_number w32 (counts + 4) b in
    let start = variable_start counts b in
    let fixed = fixed_at m (counts + 8) b in
    let variable = map canonical (variable_at n start b) in
    let fixed_count : length fixed ≡ m = length-fixed_at m (counts + 8) b in
    let variable_count : length variable ≡ n = length-map (variable_at n start b) canonical ∙ length-variable_at n start b in
    let fixed_size : size (fixed_layouts fixed) ≡ 8 * m = omega (arith, size-fixed_layouts fixed, fixed_count) in
    let records = variable_stand n start b in
    let first : counts + 8 ≡ counts + 4 + 4 = omega arith in
    let second : start ≡ counts + 8 + size (fixed_layouts fixed) = omega (arith, fixed_size) in
    let both = join (fixed_layouts fixed) (variable_layouts variable) (counts + 8) b (fixed_stand m (counts + 8) b)
    (subst (λ (k : ℕ). ArePlacedAt (variable_layouts variable) k b) second records.0) in (
      (fixed_count, (variable_count, subst (λ (k : ℕ). ArePlacedAt (fixed_layouts fixed ++ variable_layouts variable) k b) first both)),
      omega (arith, size-append (fixed_layouts fixed) (variable_layouts variable), fixed_size, records.1, total-datum_sizes counts b),
    )

same_datums : (d : DatumLists) (fixed : List FixedDatum) (variable : List Datum) → d.fixed ≡ fixed → d.variable ≡ variable
    → d ≡ record { fixed = fixed; variable = variable }
same_datums d fixed variable p q = rw (← p, ← q) refl

-- datums that stand there are read
pub datums_again : (d : DatumLists) (counts : ℕ) (b : List ℕ) → ArePlacedAt (datums_layout d) counts b
    → (d ≡ datums_at counts b) × (size (datums_layout d) ≡ 8 + total (datum_sizes counts b))
unfolding shown_datums
datums_again d counts b stand =
    let m = spelled_number w32 counts b in
    let n = spelled_number w32 (counts + 4) b in
    let fixed_count : length d.fixed ≡ m = stand.0 in
    let variable_count : length d.variable ≡ n = stand.1.0 in
    let first : counts + 4 + 4 ≡ counts + 8 = omega arith in
    let both = split (fixed_layouts d.fixed) (variable_layouts d.variable) (counts + 8) b
    (subst (λ (k : ℕ). ArePlacedAt (fixed_layouts d.fixed ++ variable_layouts d.variable) k b) first stand.1.1) in
    let fixed_size : size (fixed_layouts d.fixed) ≡ 8 * m = omega (arith, size-fixed_layouts d.fixed, fixed_count) in
    let second : counts + 8 + size (fixed_layouts d.fixed) ≡ variable_start counts b = omega (arith, fixed_size) in
    let fixed = fixed_is d.fixed (counts + 8) b both.0 in
    let variable = variable_is d.variable (variable_start counts b) b (subst (λ (k : ℕ). ArePlacedAt (variable_layouts d.variable) k b) second both.1) in (
      same_datums d (fixed_at m (counts + 8) b) (map canonical (variable_at n (variable_start counts b) b))
          (fixed ∙ ap (λ (k : ℕ). fixed_at k (counts + 8) b) fixed_count)
          (variable.0 ∙ ap (λ (k : ℕ). map canonical (variable_at k (variable_start counts b) b)) variable_count),
      let sizes : total (variable_sizes (length d.variable) (variable_start counts b) b) ≡ total (variable_sizes n (variable_start counts b) b) = ap
          (λ (k : ℕ). total (variable_sizes k (variable_start counts b) b)) variable_count in
          omega (arith, size-append (fixed_layouts d.fixed) (variable_layouts d.variable), fixed_size, variable.1, sizes, total-datum_sizes counts b),
    )

-- ---- identifiers

total-id_sizes : (counts : ℕ) (b : List ℕ) → total (id_sizes counts b) ≡ 4 * spelled_number w32 counts b + 4 * spelled_number w32 (counts + 4) b
total-id_sizes counts b =
    let m = spelled_number w32 counts b in
    let n = spelled_number w32 (counts + 4) b in
    omega (arith, total-append (replicate m 4) (replicate n 4), total-replicate m 4, total-replicate n 4)

pub ids_fit : (counts : ℕ) (b : List ℕ) → counts + 8 + total (id_sizes counts b) ≤ length b → IdsFit counts b
ids_fit counts b le = let e = total-id_sizes counts b in record { counts_fit = omega arith; all_fit = omega arith }

-- what is read of identifiers stands there
pub id_lists_stand : (counts : ℕ) (b : List ℕ)
    → ArePlacedAt (ids_layout (id_lists_at counts b)) counts b × (size (ids_layout (id_lists_at counts b)) ≡ 8 + total (id_sizes counts b))
unfolding shown_ids
id_lists_stand counts b =
    let m = spelled_number w32 counts b in
    let n = spelled_number w32 (counts + 4) b in
    let start = ids_start counts b in
    let fixed = ids_at m (counts + 8) b in
    let variable = ids_at n start b in
    let fixed_count : length fixed ≡ m = length-ids_at m (counts + 8) b in
    let variable_count : length variable ≡ n = length-ids_at n start b in
    let fixed_size : size (id_layouts fixed) ≡ 4 * m = omega (arith, size-id_layouts fixed, fixed_count) in
    let variable_size : size (id_layouts variable) ≡ 4 * n = omega (arith, size-id_layouts variable, variable_count) in
    let first : counts + 8 ≡ counts + 4 + 4 = omega arith in
    let second : start ≡ counts + 8 + size (id_layouts fixed) = omega (arith, fixed_size) in
    let both = join (id_layouts fixed) (id_layouts variable) (counts + 8) b (ids_stand m (counts + 8) b)
    (subst (λ (k : ℕ). ArePlacedAt (id_layouts variable) k b) second (ids_stand n start b)) in (
      (fixed_count, (variable_count, subst (λ (k : ℕ). ArePlacedAt (id_layouts fixed ++ id_layouts variable) k b) first both)),
      omega (arith, size-append (id_layouts fixed) (id_layouts variable), fixed_size, variable_size, total-id_sizes counts b),
    )

same_id_lists : (d : IdLists) (fixed variable : List ℕ) → d.fixed ≡ fixed → d.variable ≡ variable → d ≡ record { fixed = fixed; variable = variable }
same_id_lists d fixed variable p q = rw (← p, ← q) refl

-- identifiers that stand there are read
pub ids_again : (d : IdLists) (counts : ℕ) (b : List ℕ) → ArePlacedAt (ids_layout d) counts b
    → (d ≡ id_lists_at counts b) × (size (ids_layout d) ≡ 8 + total (id_sizes counts b))
unfolding shown_ids
ids_again d counts b stand =
    let m = spelled_number w32 counts b in
    let n = spelled_number w32 (counts + 4) b in
    let start = ids_start counts b in
    let fixed_count : length d.fixed ≡ m = stand.0 in
    let variable_count : length d.variable ≡ n = stand.1.0 in
    let first : counts + 4 + 4 ≡ counts + 8 = omega arith in
    let both = split (id_layouts d.fixed) (id_layouts d.variable) (counts + 8) b
    (subst (λ (k : ℕ). ArePlacedAt (id_layouts d.fixed ++ id_layouts d.variable) k b) first stand.1.1) in
    let fixed_size : size (id_layouts d.fixed) ≡ 4 * m = omega (arith, size-id_layouts d.fixed, fixed_count) in
    let variable_size : size (id_layouts d.variable) ≡ 4 * n = omega (arith, size-id_layouts d.variable, variable_count) in
    let second : counts + 8 + size (id_layouts d.fixed) ≡ start = omega (arith, fixed_size) in
    let fixed = ids_are d.fixed (counts + 8) b both.0 in
    let variable = ids_are d.variable start b (subst (λ (k : ℕ). ArePlacedAt (id_layouts d.variable) k b) second both.1) in (
      same_id_lists d (ids_at m (counts + 8) b) (ids_at n start b)
          (fixed ∙ ap (λ (k : ℕ). ids_at k (counts + 8) b) fixed_count)
          (variable ∙ ap (λ (k : ℕ). ids_at k start b) variable_count),
      omega (arith, size-append (id_layouts d.fixed) (id_layouts d.variable), fixed_size, variable_size, total-id_sizes counts b),
    )

-- ---- bodies

-- A body of the kind stands at its place and ends with the datagram.
pub record BodyStands (kind : Kind) (body : Body) (b : List ℕ) : Type 0 where
  pub kind_is : body_kind body ≡ kind
  pub stand : ArePlacedAt (body_layout body) 24 b
  pub whole_is : length b ≡ 24 + size (body_layout body)

pub body_stands : (kind : Kind) (b : List ℕ) → IsWhole kind b → BodyStands kind (body_at kind b) b
unfolding shown_body
body_stands kinds.CreateEntity b e = record { kind_is = refl; stand = (refl, tt); whole_is = omega arith }
body_stands kinds.RemoveEntity b e = record { kind_is = refl; stand = (refl, tt); whole_is = omega arith }
body_stands kinds.StartResume b e = record { kind_is = refl; stand = (refl, (refl, (refl, (refl, (refl, tt))))); whole_is = omega arith }
body_stands kinds.StopFreeze b e = record { kind_is = refl; stand = (refl, (refl, (refl, (refl, (tt, (refl, tt)))))); whole_is = omega arith }
body_stands kinds.Acknowledge b e = record { kind_is = refl; stand = (refl, (refl, (refl, tt))); whole_is = omega arith }
body_stands kinds.ActionRequest b e =
    let datums = datums_stand 32 b in record { kind_is = refl; stand = (refl, (refl, datums.0)); whole_is = omega (arith, datums.1) }
body_stands kinds.ActionResponse b e =
    let datums = datums_stand 32 b in record { kind_is = refl; stand = (refl, (refl, datums.0)); whole_is = omega (arith, datums.1) }
body_stands kinds.DataQuery b e =
    let ids = id_lists_stand 32 b in record { kind_is = refl; stand = (refl, (refl, ids.0)); whole_is = omega (arith, ids.1) }
body_stands kinds.SetData b e =
    let datums = datums_stand 32 b in record { kind_is = refl; stand = (refl, (tt, datums.0)); whole_is = omega (arith, datums.1) }
body_stands kinds.DataPdu b e =
    let datums = datums_stand 32 b in record { kind_is = refl; stand = (refl, (tt, datums.0)); whole_is = omega (arith, datums.1) }
body_stands kinds.EventReport b e =
    let datums = datums_stand 32 b in record { kind_is = refl; stand = (refl, (tt, datums.0)); whole_is = omega (arith, datums.1) }
body_stands kinds.Comment b e = let datums = datums_stand 24 b in record { kind_is = refl; stand = datums.0; whole_is = omega (arith, datums.1) }

same_time : (t : ClockTime) (hour past : ℕ) → t.hour ≡ hour → t.past ≡ past → t ≡ record { hour = hour; past = past }
same_time t hour past p q = rw (← p, ← q) refl

-- The body is the one that is read, and its parts are whole.
pub record BodyAgain (body : Body) (b : List ℕ) : Type 0 where
  pub read : body ≡ body_at (body_kind body) b
  pub whole : IsWhole (body_kind body) b

pub body_again : (body : Body) (b : List ℕ) → ArePlacedAt (body_layout body) 24 b → length b ≡ 24 + size (body_layout body) → BodyAgain body b
unfolding shown_body
body_again (CreateEntity request) b stand all = record { read = ap (λ (n : ℕ). CreateEntity n) stand.0; whole = omega arith }
body_again (RemoveEntity request) b stand all = record { read = ap (λ (n : ℕ). RemoveEntity n) stand.0; whole = omega arith }
body_again (StartResume real sim request) b stand all =
    let x = same_time real (spelled_number w32 24 b) (spelled_number w32 28 b) stand.0 stand.1.0 in
    let y = same_time sim (spelled_number w32 32 b) (spelled_number w32 36 b) stand.1.1.0 stand.1.1.1.0 in
    let z = stand.1.1.1.1.0 in
    record { read = cc; whole = omega arith }
body_again (StopFreeze real reason behaviour request) b stand all =
    let time = same_time real (spelled_number w32 24 b)
    (spelled_number w32 28 b) stand.0 stand.1.0 in let p = stand.1.1.0 in let q = stand.1.1.1.0 in let r = stand.1.1.1.1.1.0 in
    record { read = cc; whole = omega arith }
body_again (Acknowledge flag response request) b stand all =
    record { read = let p = stand.0 in let q = stand.1.0 in let r = stand.1.1.0 in cc; whole = omega arith }
body_again (ActionRequest request action datums) b stand all =
    let again = datums_again datums 32 b stand.1.1 in
    record { read = let p = stand.0 in let q = stand.1.0 in let r = again.0 in cc; whole = omega (arith, again.1) }
body_again (ActionResponse request status datums) b stand all =
    let again = datums_again datums 32 b stand.1.1 in
    record { read = let p = stand.0 in let q = stand.1.0 in let r = again.0 in cc; whole = omega (arith, again.1) }
body_again (DataQuery request interval ids) b stand all =
    let again = ids_again ids 32 b stand.1.1 in
    record { read = let p = stand.0 in let q = stand.1.0 in let r = again.0 in cc; whole = omega (arith, again.1) }
body_again (SetData request datums) b stand all =
    let again = datums_again datums 32 b stand.1.1 in
    record { read = let p = stand.0 in let r = again.0 in cc; whole = omega (arith, again.1) }
body_again (DataPdu request datums) b stand all =
    let again = datums_again datums 32 b stand.1.1 in
    record { read = let p = stand.0 in let r = again.0 in cc; whole = omega (arith, again.1) }
body_again (EventReport event datums) b stand all =
    let again = datums_again datums 32 b stand.1.1 in
    record { read = let p = stand.0 in let r = again.0 in cc; whole = omega (arith, again.1) }
body_again (Comment datums) b stand all =
    let again = datums_again datums 24 b stand in
    record { read = ap (λ (d : DatumLists). Comment d) again.0; whole = omega (arith, again.1) }
