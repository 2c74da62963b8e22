-- Equality of bodies and of PDUs is exact.
use Rattle.std.proofs.Common.{◌≡◌, ℕ, Bool, true, refl, ap, subst}
use Rattle.std.specs.Prelude.{◌==◌, ◌&&◌}
use Rattle.std.specs.Bool.{Decides}
use Rattle.std.proofs.lemmas.Bool.Decides.{Decides-and, Decides-eqb, Decides-like}
use Rattle.dis_records.specs.declared.clock_time.ClockTime.{ClockTime}
use Rattle.dis_records.specs.declared.entity.EntityId.{EntityId}
use Rattle.dis_records.specs.declared.header.Version.{Version}
use Rattle.dis_records.specs.declared.header.Version.TheVariants as versions
use Rattle.siman_pdus.specs.Equality.{datums_decide, ids_decide}
use Rattle.siman_pdus.specs.declared.pdu.Body.{Body}
use Rattle.siman_pdus.specs.declared.pdu.Body.TheVariants.{CreateEntity, RemoveEntity, StartResume, StopFreeze, Acknowledge, ActionRequest, ActionResponse, DataQuery, SetData, DataPdu, EventReport, Comment}
use Rattle.siman_pdus.specs.declared.pdu.Pdu.{Pdu}
use Rattle.dis_records.specs.Header.{same_version}
use Rattle.siman_pdus.specs.Same.{same_time, same_entity, same_body, IsSameOrder, is_same_order, is_same_pdu}

same_time_fields : (t u : ClockTime) → t.hour ≡ u.hour → t.past ≡ u.past → t ≡ u
same_time_fields t u p q = rw (p, q) refl

time_decides : (t u : ClockTime) → Decides (same_time t u) (t ≡ u)
time_decides t u =
    Decides-like (same_time t u) (λ p. same_time_fields t u p.0 p.1) (λ s. (ap (λ (x : ClockTime). x.hour) s, ap (λ (x : ClockTime). x.past) s))
    (Decides-and (t.hour == u.hour) (t.past == u.past) (Decides-eqb t.hour u.hour) (Decides-eqb t.past u.past))

same_entity_fields : (i j : EntityId) → i.site ≡ j.site → i.application ≡ j.application → i.entity ≡ j.entity → i ≡ j
same_entity_fields i j p q r = rw (p, q, r) refl

entity_decides : (i j : EntityId) → Decides (same_entity i j) (i ≡ j)
entity_decides i j =
    Decides-like (same_entity i j) (λ p. same_entity_fields i j p.0 p.1.0 p.1.1)
    (λ s. (ap (λ (x : EntityId). x.site) s, (ap (λ (x : EntityId). x.application) s, ap (λ (x : EntityId). x.entity) s)))
    (Decides-and (i.site == j.site) ((i.application == j.application) && (i.entity == j.entity)) (Decides-eqb i.site j.site)
    (Decides-and (i.application == j.application) (i.entity == j.entity) (Decides-eqb i.application j.application) (Decides-eqb i.entity j.entity)))

version_decides : (v w : Version) → Decides (same_version v w) (v ≡ w)
version_decides versions.V6 versions.V6 = (λ e. refl, λ e. refl)
version_decides versions.V6 versions.V7 = (λ e. absurd cc, λ e. absurd cc)
version_decides versions.V7 versions.V6 = (λ e. absurd cc, λ e. absurd cc)
version_decides versions.V7 versions.V7 = (λ e. refl, λ e. refl)

-- two tests and a rest
abbrev pub number_and : (m n : ℕ) (rest : Bool) (P : Type 0) → Decides rest P → Decides ((m == n) && rest) ((m ≡ n) × P)
number_and m n rest P d = Decides-and (m == n) rest (Decides-eqb m n) d

pub body_same : (a b : Body) → same_body a b ≡ true → a ≡ b
body_same (CreateEntity m) (CreateEntity n) e = let p = (Decides-eqb m n).0 e in cc
body_same (RemoveEntity m) (RemoveEntity n) e = let p = (Decides-eqb m n).0 e in cc
body_same (StartResume r s m) (StartResume r' s' n) e =
    let p = (Decides-and (same_time r r') (same_time s s' && (m == n)) (time_decides r r')
    (Decides-and (same_time s s') (m == n) (time_decides s s') (Decides-eqb m n))).0 e in cc
body_same (StopFreeze r s t m) (StopFreeze r' s' t' n) e =
    let p = (Decides-and (same_time r r') ((s == s') && ((t == t') && (m == n))) (time_decides r r')
    (number_and s s' _ _ (number_and t t' _ _ (Decides-eqb m n)))).0 e in cc
body_same (Acknowledge f r m) (Acknowledge f' r' n) e = let p = (number_and f f' _ _ (number_and r r' _ _ (Decides-eqb m n))).0 e in cc
body_same (ActionRequest m a d) (ActionRequest n a' d') e = let p = (number_and m n _ _ (number_and a a' _ _ (datums_decide d d'))).0 e in cc
body_same (ActionResponse m a d) (ActionResponse n a' d') e = let p = (number_and m n _ _ (number_and a a' _ _ (datums_decide d d'))).0 e in cc
body_same (DataQuery m i d) (DataQuery n i' d') e = let p = (number_and m n _ _ (number_and i i' _ _ (ids_decide d d'))).0 e in cc
body_same (SetData m d) (SetData n d') e = let p = (number_and m n _ _ (datums_decide d d')).0 e in cc
body_same (DataPdu m d) (DataPdu n d') e = let p = (number_and m n _ _ (datums_decide d d')).0 e in cc
body_same (EventReport m d) (EventReport n d') e = let p = (number_and m n _ _ (datums_decide d d')).0 e in cc
body_same (Comment d) (Comment d') e = let p = (datums_decide d d').0 e in cc
body_same a b e = absurd cc

body_itself : (a : Body) → same_body a a ≡ true
body_itself (CreateEntity m) = (Decides-eqb m m).1 refl
body_itself (RemoveEntity m) = (Decides-eqb m m).1 refl
body_itself (StartResume r s m) =
    (Decides-and (same_time r r) (same_time s s && (m == m)) (time_decides r r) (Decides-and (same_time s s) (m == m) (time_decides s s) (Decides-eqb m m))).1
    (refl, (refl, refl))
body_itself (StopFreeze r s t m) =
    (Decides-and (same_time r r) ((s == s) && ((t == t) && (m == m))) (time_decides r r) (number_and s s _ _ (number_and t t _ _ (Decides-eqb m m)))).1
    (refl, (refl, (refl, refl)))
body_itself (Acknowledge f r m) = (number_and f f _ _ (number_and r r _ _ (Decides-eqb m m))).1 (refl, (refl, refl))
body_itself (ActionRequest m a d) = (number_and m m _ _ (number_and a a _ _ (datums_decide d d))).1 (refl, (refl, refl))
body_itself (ActionResponse m a d) = (number_and m m _ _ (number_and a a _ _ (datums_decide d d))).1 (refl, (refl, refl))
body_itself (DataQuery m i d) = (number_and m m _ _ (number_and i i _ _ (ids_decide d d))).1 (refl, (refl, refl))
body_itself (SetData m d) = (number_and m m _ _ (datums_decide d d)).1 (refl, refl)
body_itself (DataPdu m d) = (number_and m m _ _ (datums_decide d d)).1 (refl, refl)
body_itself (EventReport m d) = (number_and m m _ _ (datums_decide d d)).1 (refl, refl)
body_itself (Comment d) = (datums_decide d d).1 refl

pub body_decides : (a b : Body) → Decides (same_body a b) (a ≡ b)
body_decides a b = (body_same a b, λ s. subst (λ (x : Body). same_body a x ≡ true) s (body_itself a))

same_order_fields : (p q : Pdu) → p.version ≡ q.version → p.exercise ≡ q.exercise → p.origin ≡ q.origin → p.target ≡ q.target → p.body ≡ q.body
    → IsSameOrder p q
same_order_fields p q v x o t b = rw (v, x, o, t, b) refl

pub order_decides : (p q : Pdu) → Decides (is_same_order p q) (IsSameOrder p q)
order_decides p q =
    Decides-like (is_same_order p q) (λ r. same_order_fields p q r.0 r.1.0 r.1.1.0 r.1.1.1.0 r.1.1.1.1)
    (λ s. (ap (λ (x : Pdu). x.version) s, (ap (λ (x : Pdu). x.exercise) s, (ap (λ (x : Pdu). x.origin) s, (ap (λ (x : Pdu). x.target) s, ap (λ (x : Pdu). x.body) s)))))
    (Decides-and (same_version p.version q.version) _ (version_decides p.version q.version)
    (number_and p.exercise q.exercise _ _
    (Decides-and (same_entity p.origin q.origin) _ (entity_decides p.origin q.origin)
    (Decides-and (same_entity p.target q.target) (same_body p.body q.body) (entity_decides p.target q.target) (body_decides p.body q.body)))))

same_pdu_fields : (p q : Pdu) → p.version ≡ q.version → p.exercise ≡ q.exercise → p.stamp ≡ q.stamp → p.status ≡ q.status → p.origin ≡ q.origin
    → p.target ≡ q.target → p.body ≡ q.body → p ≡ q
same_pdu_fields p q v x s u o t b = rw (v, x, s, u, o, t, b) refl

pub pdu_decides : (p q : Pdu) → Decides (is_same_pdu p q) (p ≡ q)
pdu_decides p q =
    Decides-like (is_same_pdu p q) (λ r. same_pdu_fields p q r.0 r.1.0 r.1.1.0 r.1.1.1.0 r.1.1.1.1.0 r.1.1.1.1.1.0 r.1.1.1.1.1.1)
    (λ e. (
      ap (λ (x : Pdu). x.version) e,
      (
        ap (λ (x : Pdu). x.exercise) e,
        (
          ap (λ (x : Pdu). x.stamp) e,
          (
            ap (λ (x : Pdu). x.status) e,
            (ap (λ (x : Pdu). x.origin) e, (ap (λ (x : Pdu). x.target) e, ap (λ (x : Pdu). x.body) e)),
          ),
        ),
      ),
    ))
    (Decides-and (same_version p.version q.version) _ (version_decides p.version q.version)
    (number_and p.exercise q.exercise _ _
    (number_and p.stamp q.stamp _ _
    (number_and p.status q.status _ _
    (Decides-and (same_entity p.origin q.origin) _ (entity_decides p.origin q.origin)
    (Decides-and (same_entity p.target q.target) (same_body p.body q.body) (entity_decides p.target q.target) (body_decides p.body q.body)))))))
