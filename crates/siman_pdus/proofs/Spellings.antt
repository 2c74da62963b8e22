-- What is read is spelled so, and what is spelled so is read.
use Rattle.std.proofs.Common.{◌≡◌, ◌≤◌, ℕ, ◌⊎◌, inl, inr, List, [], ◌∷◌, ◌++◌, length, Option, Some, None, Result, Ok, Err, refl, sym, ap, subst, ◌∙◌, arith}
use Rattle.std.specs.Prelude.{Bool, true, false, ◌↔◌, if◌then◌else◌, is_some, IfOk, IfErr}
use Rattle.std.specs.Result.{result_ok}
use Rattle.std.specs.Int.{w8, w16, w32}
use Rattle.std.proofs.lemmas.List.{length-append}
use Rattle.dis_records.specs.declared.header.TheConstants.{LARGEST_DATAGRAM}
use Rattle.dis_records.specs.declared.entity.EntityId.{EntityId}
use Rattle.dis_records.specs.declared.header.Header.{Header}
use Rattle.dis_records.specs.Layout.{Field, Byte, ByteIf, Number, Padding, Fit, Spell, field_text, text, spelled_number}
use Rattle.dis_records.specs.Header.{IsHeader, version_code, has_status, header_at, header_refusal}
use Rattle.dis_records.specs.Entity.{entity_at, entity_layout}
use Rattle.dis_records.specs.Kind.{kind_code}
use Rattle.dis_records.specs.declared.header.HeaderFault.{HeaderFault}
use Rattle.dis_records.proofs.Offered.{length-text, text_spells, number_at-append, header_is, header_reads, header_stands, status_again}
use Rattle.siman_pdus.specs.declared.fault.PduFault.{PduFault}
use Rattle.siman_pdus.specs.declared.fault.PduFault.TheVariants as faults
use Rattle.siman_pdus.specs.declared.fault.ViewFault.{ViewFault}
use Rattle.siman_pdus.specs.declared.fault.ViewFault.TheVariants as view_faults
use Rattle.siman_pdus.specs.declared.pdu.Body.{Body}
use Rattle.siman_pdus.specs.declared.pdu.Pdu.{Pdu}
use Rattle.siman_pdus.specs.declared.views.PduView.{PduView}
use Rattle.siman_pdus.specs.Spelling.{body_kind, body_layout, header_of, pdu_layout, pdu_size, pdu_text, HasCarriedStatus, Spells, carried}
use Rattle.siman_pdus.specs.Shape.{body_refusal, IsWhole}
use Rattle.siman_pdus.specs.Reading.{body_at, pdu_of, view_from, pdu_from, first_refusal, view_refusal, pdu_refusal, refusal_of, viewed, reading, unless_refused}
use Rattle.siman_pdus.proofs.Ends.{refused_whole, whole_not_refused}
use Rattle.siman_pdus.proofs.Bodies.{body_stands, body_again}

-- ---- refusals

pub head_refused : (b : List ℕ) (fault : HeaderFault) → header_refusal b ≡ Some fault → view_refusal b ≡ Some (view_faults.Header fault)
head_refused b fault e = ap (λ (o : Option HeaderFault). first_refusal o (body_refusal (header_at b).kind b)) e

pub body_refused : (b : List ℕ) (header : Header) (refusal : Option ViewFault) → header_refusal b ≡ None → header ≡ header_at b
    → body_refusal header.kind b ≡ refusal → view_refusal b ≡ refusal
body_refused b header refusal e is body =
    ap (λ (o : Option HeaderFault). first_refusal o (body_refusal (header_at b).kind b)) e ∙ ap (λ (h : Header). body_refusal h.kind b) (sym is) ∙ body

-- what is not refused has a header and a body that are not
pub not_refused_parts : (head : Option HeaderFault) (body : Option ViewFault) → first_refusal head body ≡ None → (head ≡ None) × (body ≡ None)
not_refused_parts None body e = (refl, e)
not_refused_parts (Some fault) body e = absurd cc

-- what decoding does not refuse is not refused
pub not_refused : (refusal : Option ViewFault) → pdu_refusal refusal ≡ None → refusal ≡ None
not_refused None e = refl
not_refused (Some fault) e = absurd cc

-- what is known to be read is not refused: its header is there, its body is whole, and it shows its reading
pub known_to_read : (b : List ℕ) → is_some (reading b) ≡ true
    → (header_refusal b ≡ None) × (IsWhole (header_at b).kind b × (Some (pdu_of (view_from (header_at b) b)) ≡ reading b))
known_to_read b is =
    let passes = read_passes (refusal_of b) (pdu_from (header_at b) b) is in
    let parts = not_refused_parts (header_refusal b) (body_refusal (header_at b).kind b) (not_refused (view_refusal b) passes) in (
      parts.0,
      (
        refused_whole (header_at b).kind b (header_reads b parts.0).room parts.1,
        ap (λ (o : Option PduFault). unless_refused o (pdu_from (header_at b) b)) (sym passes),
      ),
    ) where
      read_passes : (refusal : Option PduFault) (p : Pdu) → is_some (unless_refused refusal p) ≡ true → refusal ≡ None
      read_passes None p e = refl
      read_passes (Some fault) p e = absurd cc

-- ---- what is read is spelled so

pub reading_spells : (b : List ℕ) → view_refusal b ≡ None → Spells (pdu_from (header_at b) b) b
reading_spells b passes =
    let h = header_at b in
    let parts = not_refused_parts (header_refusal b) (body_refusal h.kind b) passes in
    let is_header = header_reads b parts.0 in
    let x = is_header.stands in
    let body = body_stands h.kind b (refused_whole h.kind b is_header.room parts.1) in
    let kind : kind_code (body_kind (body_at h.kind b)) ≡ spelled_number w8 2 b = ap kind_code body.kind_is ∙ x.1.1.0 in
    let own : length b ≡ spelled_number w16 8 b = sym is_header.length_is ∙ x.1.1.1.1.1.0 in
    record {
      spell = record {
        stand = (x.0, (x.1.0, (kind, (x.1.1.1.0, (x.1.1.1.1.0, (own, (x.1.1.1.1.1.1.0, (tt, (refl, (refl, (refl, (refl, (refl, (refl, body.stand))))))))))))));
        whole = omega (arith, body.whole_is);
      };
      status_is = is_header.status_is;
      limit = is_header.limit;
    }

-- ---- what is spelled so is read

same_entity : (id : EntityId) (site application entity : ℕ) → id.site ≡ site → id.application ≡ application → id.entity ≡ entity
    → id ≡ record { site = site; application = application; entity = entity }
same_entity id site application entity p q r = rw (← p, ← q, ← r) refl

same_pdu : (p : Pdu) (origin target : EntityId) (body : Body) → p.origin ≡ origin → p.target ≡ target → p.body ≡ body
    → p ≡ record { version = p.version; exercise = p.exercise; stamp = p.stamp; status = p.status; origin = origin; target = target; body = body }
same_pdu p origin target body a b c = rw (← a, ← b, ← c) refl

-- The datagram is not refused, and its reading is the PDU.
pub record IsRead (p : Pdu) (b : List ℕ) : Type 0 where
  pub passes : view_refusal b ≡ None
  pub is : p ≡ pdu_from (header_at b) b

pub spelled_read : (p : Pdu) (b : List ℕ) → Spells p b → IsRead p b
spelled_read p b spells =
    let x = spells.spell.stand in
    let ids = x.1.1.1.1.1.1.1.1 in
    let body = body_again p.body b ids.1.1.1.1.1.1 (omega (arith, spells.spell.whole)) in
    let h = header_of p (length b) in
    let is_header : IsHeader h b = record {
      stands = (x.0, (x.1.0, (x.1.1.0, (x.1.1.1.0, (x.1.1.1.1.0, (x.1.1.1.1.1.0, (x.1.1.1.1.1.1.0, (tt, tt))))))));
      length_is = refl;
      status_is = spells.status_is;
      room = omega (arith, spells.spell.whole);
      limit = spells.limit;
    } in
    let at : h ≡ header_at b = header_is h b is_header in
    let own : p ≡ pdu_from h b = same_pdu p (entity_at 12 b) (entity_at 18 b) (body_at (body_kind p.body) b)
    (same_entity p.origin (spelled_number w16 12 b) (spelled_number w16 14 b) (spelled_number w16 16 b) ids.0 ids.1.0 ids.1.1.0)
    (same_entity p.target (spelled_number w16 18 b) (spelled_number w16 20 b) (spelled_number w16 22 b) ids.1.1.1.0 ids.1.1.1.1.0 ids.1.1.1.1.1.0)
    body.read in
    record {
      passes = body_refused b h None (header_stands h b is_header) at (whole_not_refused (body_kind p.body) b body.whole);
      is = own ∙ ap (λ (g : Header). pdu_from g b) at;
    }

-- ---- laws of the reading

pub reading_is : (p : Pdu) (b : List ℕ) → Spells p b → reading b ≡ Some p
reading_is p b spells =
    let read = spelled_read p b spells in
    ap (λ (o : Option ViewFault). unless_refused (pdu_refusal o) (pdu_from (header_at b) b)) read.passes ∙ ap (λ (q : Pdu). Some q) (sym read.is)

pub passed : (refusal : Option PduFault) (q p : Pdu) → unless_refused refusal q ≡ Some p → (refusal ≡ None) × (q ≡ p)
passed None q p e = (refl, cc)
passed (Some fault) q p e = absurd cc

pub reading_spelled : (p : Pdu) (b : List ℕ) → reading b ≡ Some p → Spells p b
reading_spelled p b e =
    let found = passed (refusal_of b) (pdu_from (header_at b) b) p e in
    subst (λ (q : Pdu). Spells q b) found.1 (reading_spells b (not_refused (view_refusal b) found.0))

pub one_spelled : (p q : Pdu) (b : List ℕ) → Spells p b → Spells q b → p ≡ q
one_spelled p q b left right = (spelled_read p b left).is ∙ sym (spelled_read q b right).is

nothing : (more : List ℕ) → length more ≡ 0 → more ≡ []
nothing [] e = refl
nothing (byte ∷ more) e = absurd (omega arith)

-- The length field of a spelling is its own length, so that no byte can follow it.
pub no_prefix : (p q : Pdu) (b more : List ℕ) → Spells p b → Spells q (b ++ more) → more ≡ []
no_prefix p q b more left right =
    let short : length b ≡ spelled_number w16 8 b = left.spell.stand.1.1.1.1.1.0 in
    let long : length (b ++ more) ≡ spelled_number w16 8 (b ++ more) = right.spell.stand.1.1.1.1.1.0 in
    let same : spelled_number w16 8 (b ++ more) ≡ spelled_number w16 8 b = number_at-append w16 8 b more (omega (arith, left.spell.whole)) in
    nothing more (omega (arith, length-append b more, short, long, same))

-- ---- what view answers

-- The datagram is shown in place, or its refusal.
abbrev pub Shows : Result PduView ViewFault → List ℕ → Type 0
Shows r b = IfOk r (λ v. (view_refusal b ≡ None) × (v ≡ view_from (header_at b) b)) × IfErr r (λ fault. view_refusal b ≡ Some fault)

pub shows_reads : (r : Result PduView ViewFault) (b : List ℕ) → Shows r b → viewed r ≡ reading b
shows_reads (Ok v) b shows =
    ap (λ (w : PduView). Some (pdu_of w)) shows.0.1 ∙ ap (λ (o : Option ViewFault). unless_refused (pdu_refusal o) (pdu_from (header_at b) b))
    (sym shows.0.0)
shows_reads (Err fault) b shows = ap (λ (o : Option ViewFault). unless_refused (pdu_refusal o) (pdu_from (header_at b) b)) (sym shows.1)

pub shows_spelled : (r : Result PduView ViewFault) (b : List ℕ) → Shows r b → IfOk r (λ v. Spells (pdu_of v) b)
shows_spelled (Ok v) b shows = subst (λ (w : PduView). Spells (pdu_of w) b) (sym shows.0.1) (reading_spells b shows.0.0)
shows_spelled (Err fault) b shows = tt

pub shows_only : (r : Result PduView ViewFault) (b : List ℕ) → Shows r b → (p : Pdu) → Spells p b → viewed r ≡ Some p
shows_only r b shows p spells = shows_reads r b shows ∙ reading_is p b spells

pub shows_stands : (r : Result PduView ViewFault) (b : List ℕ) → Shows r b → IfOk r (λ v. v ≡ view_from (header_at b) b)
shows_stands (Ok v) b shows = shows.0.1
shows_stands (Err fault) b shows = tt

-- ---- what decode answers

only_read : (b : List ℕ) (p q : Pdu) → view_refusal b ≡ None → q ≡ pdu_from (header_at b) b → Spells p b → q ≡ p
only_read b p q passes is spells = is ∙ sym (spelled_read p b spells).is

never_refused : (p : Pdu) (b : List ℕ) (fault : PduFault) → Spells p b → refusal_of b ≡ Some fault → ⊥
never_refused p b fault spells refused = let clash = sym (ap pdu_refusal (spelled_read p b spells).passes) ∙ refused in cc

-- The reading of the datagram is answered, or its refusal, unless memory runs out.
abbrev pub Answered : Result Pdu PduFault → List ℕ → Type 0
Answered r b =
    IfOk r (λ q. (refusal_of b ≡ None) × (q ≡ pdu_from (header_at b) b)) × IfErr r (λ fault. (fault ≡ faults.Memory) ⊎ (refusal_of b ≡ Some fault))

pub answered_only : (r : Result Pdu PduFault) (b : List ℕ) → Answered r b → (p : Pdu) → Spells p b → (r ≡ Ok p) ⊎ (r ≡ Err faults.Memory)
answered_only (Ok q) b answered p spells = inl (ap (λ (x : Pdu). Ok x) (only_read b p q (not_refused (view_refusal b) answered.0.0) answered.0.1 spells))
answered_only (Err fault) b answered p spells = elim answered.1 [
  | inl memory ↦ inr (ap (λ (x : PduFault). Err x) memory)
  | inr refused ↦ absurd (never_refused p b fault spells refused)
]

pub answered_spelled : (r : Result Pdu PduFault) (b : List ℕ) → Answered r b → IfOk r (λ q. Spells q b)
answered_spelled (Ok q) b answered = subst (λ (p : Pdu). Spells p b) (sym answered.0.1) (reading_spells b (not_refused (view_refusal b) answered.0.0))
answered_spelled (Err fault) b answered = tt

pub answered_reads : (r : Result Pdu PduFault) (b : List ℕ) → Answered r b → (r ≡ Err faults.Memory) ⊎ (result_ok r ≡ reading b)
answered_reads (Ok q) b answered =
    inr (ap (λ (p : Pdu). Some p) answered.0.1 ∙ ap (λ (o : Option PduFault). unless_refused o (pdu_from (header_at b) b)) (sym answered.0.0))
answered_reads (Err fault) b answered = elim answered.1 [
  | inl memory ↦ inl (ap (λ (x : PduFault). Err x) memory)
  | inr refused ↦ inr (ap (λ (o : Option PduFault). unless_refused o (pdu_from (header_at b) b)) (sym refused))
]

-- ---- what is written

text_spelled : (p : Pdu) → Fit (pdu_layout p (pdu_size p)) → HasCarriedStatus p → pdu_size p ≤ LARGEST_DATAGRAM → Spells p (pdu_text p)
text_spelled p fits status limit =
    let layout = pdu_layout p (pdu_size p) in
    let len : length (pdu_text p) ≡ pdu_size p = length-text layout fits in
    record {
      spell = subst (λ (n : ℕ). Spell (pdu_layout p n) (pdu_text p)) (sym len) (text_spells layout fits);
      status_is = status;
      limit = omega (arith, len);
    }

pub text_spelled_exactly : (p : Pdu) → Fit (pdu_layout p (pdu_size p)) → pdu_size p ≤ LARGEST_DATAGRAM → HasCarriedStatus p ↔ Spells p (pdu_text p)
text_spelled_exactly p fits limit = (λ status. text_spelled p fits status limit, λ spells. spells.status_is)

-- what is not there is not written
text_alike : (front back : List Field) (there : Bool) (n : ℕ)
    → text (front ++ (ByteIf there (if there then n else 0) ∷ back)) ≡ text (front ++ (ByteIf there n ∷ back))
text_alike [] back true n = refl
text_alike [] back false n = refl
text_alike (f ∷ front) back there n = ap (λ (bytes : List ℕ). field_text f ++ bytes) (text_alike front back there n)

carried_text : (p : Pdu) → pdu_text (carried p) ≡ pdu_text p
carried_text p =
    text_alike (Byte (version_code p.version) ∷ Byte p.exercise ∷ Byte (kind_code (body_kind p.body)) ∷ Byte 5 ∷ Number w32 p.stamp ∷ Number w16 (pdu_size p) ∷ [])
    (Padding 1 ∷ entity_layout p.origin ++ entity_layout p.target ++ body_layout p.body) (has_status p.version) p.status

-- the text of a PDU spells what is carried of it
pub carried_spelled : (p : Pdu) → Fit (pdu_layout p (pdu_size p)) → pdu_size p ≤ LARGEST_DATAGRAM → Spells (carried p) (pdu_text p)
carried_spelled p fits limit =
    subst (λ (b : List ℕ). Spells (carried p) b) (carried_text p)
    (text_spelled (carried p) fits (status_again (has_status p.version) p.status) limit)
