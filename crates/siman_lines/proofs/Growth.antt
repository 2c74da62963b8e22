-- What a line tells grows.
use Rattle.std.proofs.Common.{◌≡◌, ℕ, ◌+◌, ◌≤◌, List, [], ◌∷◌, ◌++◌, length, min, Option, Some, None, refl, sym, ap, subst, ◌∙◌, arith, append_assoc, append-nil}
use Rattle.std.proofs.lemmas.List.{reverse-append}
use Rattle.std.specs.Prelude.{reverse}
use Rattle.dis_records.specs.declared.header.TheConstants.{LARGEST_DATAGRAM}
use Rattle.siman_lines.specs.LineDatagrams.{Datagrams, Same, GrowsAll, Grows}

pub grows_none : (old : Option Datagrams) → GrowsAll old old []
grows_none None = tt
grows_none (Some xs) = sym (append-nil xs)

pub grows_on : (old mid new : Option Datagrams) (xs ys : Datagrams) → GrowsAll old mid xs → GrowsAll mid new ys → GrowsAll old new (xs ++ ys)
grows_on None None None xs ys g h = tt
grows_on None None (Some ns) xs ys g h = absurd h
grows_on None (Some ms) new xs ys g h = absurd g
grows_on (Some os) None new xs ys g h = absurd g
grows_on (Some os) (Some ms) None xs ys g h = absurd h
grows_on (Some os) (Some ms) (Some ns) xs ys g h = h ∙ (ap (λ (l : Datagrams). l ++ ys) g ∙ append_assoc os xs ys)

pub grows_same : (old mid new : Option Datagrams) (xs : Datagrams) → GrowsAll old mid xs → Same mid new → GrowsAll old new xs
grows_same None None None xs g h = tt
grows_same None None (Some ns) xs g h = absurd h
grows_same None (Some ms) new xs g h = absurd g
grows_same (Some os) None new xs g h = absurd g
grows_same (Some os) (Some ms) None xs g h = absurd h
grows_same (Some os) (Some ms) (Some ns) xs g h = h ∙ g

pub same_grows : (old mid new : Option Datagrams) (xs : Datagrams) → Same old mid → GrowsAll mid new xs → GrowsAll old new xs
same_grows None None None xs g h = tt
same_grows None None (Some ns) xs g h = absurd h
same_grows None (Some ms) new xs g h = absurd g
same_grows (Some os) None new xs g h = absurd g
same_grows (Some os) (Some ms) None xs g h = absurd h
same_grows (Some os) (Some ms) (Some ns) xs g h = h ∙ ap (λ (l : Datagrams). l ++ xs) g

pub same_none : (old new : Option Datagrams) → Same old new → GrowsAll old new []
same_none None None h = tt
same_none None (Some ns) h = absurd h
same_none (Some os) None h = absurd h
same_none (Some os) (Some ns) h = h ∙ sym (append-nil os)

pub same_on : (old mid new : Option Datagrams) → Same old mid → Same mid new → Same old new
same_on None None None g h = tt
same_on None None (Some ns) g h = absurd h
same_on None (Some ms) new g h = absurd g
same_on (Some os) None new g h = absurd g
same_on (Some os) (Some ms) None g h = absurd h
same_on (Some os) (Some ms) (Some ns) g h = h ∙ g

pub same_itself : (old : Option Datagrams) → Same old old
same_itself None = tt
same_itself (Some xs) = refl

-- The last one first.

pub reverse_on : (b : List ℕ) (us : Datagrams) → reverse (b ∷ us) ≡ reverse us ++ b ∷ []
reverse_on b us = reverse-append (b ∷ []) us

pub received_on : (old mid new : Option Datagrams) (us : Datagrams) (b : List ℕ) → GrowsAll old mid (reverse us) → Grows mid new b
    → GrowsAll old new (reverse (b ∷ us))
received_on old mid new us b g h = subst (GrowsAll old new) (sym (reverse_on b us)) (grows_on old mid new (reverse us) (b ∷ []) g h)

-- What is handed out in a buffer of 8193 bytes.

pub whole : (n : ℕ) (d buffer : List ℕ) → length buffer ≡ LARGEST_DATAGRAM + 1 → n ≤ LARGEST_DATAGRAM → n ≡ min (length d) (length buffer)
    → length d ≤ n
whole n d buffer size short is = grind (arith)
