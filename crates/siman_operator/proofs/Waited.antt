-- What comes after a wait.
use Rattle.std.proofs.Common.{◌≡◌, ℕ, List, refl, sym, ap, subst}
use Rattle.std.specs.Prelude.{Bool, true, false, ◌||◌, ◌&&◌, Option, Some, None, IfSome, if◌then◌else◌}
use Rattle.std.proofs.lemmas.Bool.{and_parts}
use Rattle.siman_lines.specs.declared.input.Ready.{Ready}
use Rattle.siman_operator.specs.Clocks.{is_reached}
use Rattle.siman_operator.specs.declared.coming.Come.{Come}
use Rattle.siman_operator.specs.declared.coming.Coming.{Coming}
use Rattle.siman_operator.specs.declared.coming.Coming.TheVariants as comings
use Rattle.siman_operator.specs.Coming.{HasBegun, ComesBy, is_tick, is_of_text, ends_wait, come_of}

by_text : (until : Option ℕ) (found : Ready) (coming : Coming) → (found.text && is_of_text coming) ≡ true → ends_wait until found coming ≡ true
by_text until found comings.Tick said = let no : false ≡ true = (and_parts found.text false said).1 in absurd cc
by_text until found comings.Datagrams said = let no : false ≡ true = (and_parts found.text false said).1 in absurd cc
by_text until found (comings.Line size) said = (and_parts found.text true said).0
by_text until found comings.End said = (and_parts found.text true said).0

-- the text says nothing: datagrams are taken, or the wait goes on
ended_silent : (until : Option ℕ) (found : Ready) (b : Bool) (come : Come) → found.datagrams || is_reached until found.time ≡ b
    → (if b then Some (record { coming = comings.Datagrams; until = until; found = found }) else None) ≡ Some come → ends_wait until come.found come.coming ≡ true
ended_silent until found true come is this =
    let made : Come = record { coming = comings.Datagrams; until = until; found = found } in
    let same : made ≡ come = cc in
    subst (λ (c : Come). ends_wait until c.found c.coming ≡ true) same is
ended_silent until found false come is this = absurd cc

-- why it ended
pub ended : (until : Option ℕ) (found : Ready) (said : Option Coming) (come : Come) → IfSome said (λ coming. (found.text && is_of_text coming) ≡ true)
    → come_of until found said ≡ Some come → ends_wait until come.found come.coming ≡ true
ended until found None come text this = ended_silent until found (found.datagrams || is_reached until found.time) come refl this
ended until found (Some coming) come text this =
    let made : Come = record { coming = coming; until = until; found = found } in
    let same : made ≡ come = cc in
    subst (λ (c : Come). ends_wait until c.found c.coming ≡ true) same (by_text until found coming text)

until_silent : (until : Option ℕ) (found : Ready) (b : Bool) (come : Come)
    → (if b then Some (record { coming = comings.Datagrams; until = until; found = found }) else None) ≡ Some come → come.until ≡ until
until_silent until found true come this =
    let made : Come = record { coming = comings.Datagrams; until = until; found = found } in
    let same : made ≡ come = cc in
    sym (ap (λ (c : Come). c.until) same)
until_silent until found false come this = absurd cc

-- until when it lasted
pub lasted : (until : Option ℕ) (found : Ready) (said : Option Coming) (come : Come) → come_of until found said ≡ Some come → come.until ≡ until
lasted until found None come this = until_silent until found (found.datagrams || is_reached until found.time) come this
lasted until found (Some coming) come this =
    let made : Come = record { coming = coming; until = until; found = found } in
    let same : made ≡ come = cc in
    sym (ap (λ (c : Come). c.until) same)

-- nothing waits for a tick
pub never_tick : (until : Option ℕ) (found : Ready) (coming : Coming) → ends_wait until found coming ≡ true → is_tick coming ≡ false
never_tick until found comings.Tick ends = absurd cc
never_tick until found comings.Datagrams ends = refl
never_tick until found (comings.Line size) ends = refl
never_tick until found comings.End ends = refl

begun_silent : (rest now : Option (List ℕ)) (buffer : List ℕ) (held : ℕ) (until : Option ℕ) (found : Ready) (b : Bool) (come : Come)
    → (if b then Some (record { coming = comings.Datagrams; until = until; found = found }) else None) ≡ Some come → HasBegun rest now buffer held → ComesBy rest now buffer held (Some come.coming)
begun_silent rest now buffer held until found true come this begun =
    let made : Come = record { coming = comings.Datagrams; until = until; found = found } in
    let same : made ≡ come = cc in
    subst (λ (c : Come). ComesBy rest now buffer held (Some c.coming)) same begun
begun_silent rest now buffer held until found false come this begun = absurd cc

-- the line goes on by what comes
pub comes_on : (rest now : Option (List ℕ)) (buffer : List ℕ) (held : ℕ) (until : Option ℕ) (found : Ready) (said : Option Coming) (come : Come)
    → come_of until found said ≡ Some come → ComesBy rest now buffer held said → ComesBy rest now buffer held (Some come.coming)
comes_on rest now buffer held until found None come this begun = begun_silent rest now buffer held until found (found.datagrams || is_reached until found.time) come this begun
comes_on rest now buffer held until found (Some coming) come this comes =
    let made : Come = record { coming = coming; until = until; found = found } in
    let same : made ≡ come = cc in
    subst (λ (c : Come). ComesBy rest now buffer held (Some c.coming)) same comes

-- nothing comes: the line has begun so far
pub waits_on : (rest now : Option (List ℕ)) (buffer : List ℕ) (held : ℕ) (until : Option ℕ) (found : Ready) (said : Option Coming)
    → come_of until found said ≡ None → ComesBy rest now buffer held said → HasBegun rest now buffer held
waits_on rest now buffer held until found None this begun = begun
waits_on rest now buffer held until found (Some coming) this comes = absurd cc
