-- Equality of keys and of identifiers is equality of all their fields.
use Rattle.std.proofs.Common.{◌≡◌, ℕ, Bool, refl, ap}
use Rattle.std.specs.Prelude.{nat_eq, ◌&&◌}
use Rattle.std.proofs.lemmas.Bool.Decides.{Decides-and, Decides-eqb, Decides-like}
use Rattle.std.specs.Bool.{Decides}
use Rattle.exercise_findings.specs.declared.key.Key.{Key}
use Rattle.exercise_findings.specs.declared.requests.Identifier.{Identifier}
use Rattle.exercise_findings.specs.Firsts.{same_key}
use Rattle.exercise_findings.specs.Requests.{same_identifier}

number_and : (m n : ℕ) (rest : Bool) (P : Type 0) → Decides rest P → Decides (nat_eq m n && rest) ((m ≡ n) × P)
number_and m n rest P d = Decides-and (nat_eq m n) rest (Decides-eqb m n) d

key_fields : (k l : Key) → k.role ≡ l.role → k.response ≡ l.response → k.station ≡ l.station → k.flag ≡ l.flag → k.request ≡ l.request
    → k.site ≡ l.site → k.application ≡ l.application → k.entity ≡ l.entity → k ≡ l
key_fields k l a b c d e f g h = rw (a, b, c, d, e, f, g, h) refl

pub key_decides : (k l : Key) → Decides (same_key k l) (k ≡ l)
key_decides k l =
    Decides-like (same_key k l)
    (λ p. key_fields k l p.0 p.1.0 p.1.1.0 p.1.1.1.0 p.1.1.1.1.0 p.1.1.1.1.1.0 p.1.1.1.1.1.1.0 p.1.1.1.1.1.1.1)
    (λ e. (
      ap (λ (x : Key). x.role) e,
      (
        ap (λ (x : Key). x.response) e,
        (
          ap (λ (x : Key). x.station) e,
          (
            ap (λ (x : Key). x.flag) e,
            (ap (λ (x : Key). x.request) e, (ap (λ (x : Key). x.site) e, (ap (λ (x : Key). x.application) e, ap (λ (x : Key). x.entity) e))),
          ),
        ),
      ),
    ))
    (number_and k.role l.role _ _ (number_and k.response l.response _ _ (number_and k.station l.station _ _ (number_and k.flag l.flag _ _
    (number_and k.request l.request _ _ (number_and k.site l.site _ _ (number_and k.application l.application _ _ (Decides-eqb k.entity l.entity))))))))

identifier_fields : (k l : Identifier) → k.station ≡ l.station → k.request ≡ l.request → k ≡ l
identifier_fields k l p q = rw (p, q) refl

pub identifier_decides : (k l : Identifier) → Decides (same_identifier k l) (k ≡ l)
identifier_decides k l =
    Decides-like (same_identifier k l)
    (λ p. identifier_fields k l p.0 p.1)
    (λ e. (ap (λ (x : Identifier). x.station) e, ap (λ (x : Identifier). x.request) e))
    (number_and k.station l.station _ _ (Decides-eqb k.request l.request))
