-- Entity identifiers (IEEE 1278.1-2012, 6.2.28): addressed stations, and entities.
use Rattle.std.specs.Prelude.{ℕ, Bool, true, false, ◌&&◌, ◌||◌, ◌==◌, not, List, [], ◌∷◌, ◌+◌, if◌then◌else◌}
use Rattle.std.specs.Int.{w16}
use Rattle.dis_records.specs.declared.entity.EntityId.{EntityId}
use Rattle.dis_records.specs.declared.entity.Scope.{Scope}
use Rattle.dis_records.specs.declared.entity_number.TheConstants.{ANY_NUMBER}
use Rattle.dis_records.specs.declared.entity.Scope.TheVariants.{One, All}
use Rattle.dis_records.specs.declared.kind.Kind.{Kind}
use Rattle.dis_records.specs.declared.kind.Kind.TheVariants as kinds
use Rattle.dis_records.specs.Layout.{Field, Number, spelled_number}
use Rattle.dis_records.specs.declared.address.SiteApplication.{SiteApplication}

-- site, application, entity
abbrev pub entity_layout : EntityId → List Field
entity_layout id = Number w16 id.site ∷ Number w16 id.application ∷ Number w16 id.entity ∷ []

-- the identifier at an offset
abbrev pub entity_at : ℕ → List ℕ → EntityId
entity_at at b = record { site = spelled_number w16 at b; application = spelled_number w16 (at + 2) b; entity = spelled_number w16 (at + 4) b }

-- site and application of an identifier
abbrev pub site_application_of : EntityId → SiteApplication
site_application_of id = record { site = id.site; application = id.application }

-- A receiving identifier addresses a site and an application if each is equal to its own or its own is 0xFFFF, all
-- (profile).
abbrev pub is_addressed : EntityId → SiteApplication → Bool
is_addressed id p = ((id.site == p.site) || (id.site == 0xFFFF)) && ((id.application == p.application) || (id.application == 0xFFFF))

abbrev pub is_create : Kind → Bool
is_create kinds.CreateEntity = true
is_create kind = false

-- An entity number is open if it names no single entity: 0, 0xFFFF, and in a Create Entity 0xFFFE, by which the
-- receiver chooses a number (profile).
abbrev pub is_open : Kind → ℕ → Bool
is_open kind n = (n == 0) || (n == 0xFFFF) || ((n == ANY_NUMBER) && is_create kind)

-- A request's receiving number n and its answer's originating number m fit if they are equal or one of them is open
-- (profile).
abbrev pub are_fitting : Kind → ℕ → ℕ → Bool
are_fitting kind n m = (n == m) || is_open kind n || is_open kind m

-- the scope of two numbers that fit: the one that is not open, or all entities (profile)
abbrev pub scope_of : Kind → ℕ → ℕ → Scope
scope_of kind n m = if not (is_open kind n) then One n else (if not (is_open kind m) then One m else All)

-- the identifier of an entity of a station
abbrev pub entity_of : SiteApplication → ℕ → EntityId
entity_of address number = record { site = address.site; application = address.application; entity = number }
