-- Filters for the rows of a view: values of one key are alternatives, different keys must all hold (profile).
use Rattle.std.specs.Prelude.{◌≡◌, ◌⊎◌, ℕ, List, [], ◌∷◌, filter, Bool, false, ◌&&◌, ◌||◌, ◌==◌, not, Option, Some, None}
use Rattle.std.specs.List.{list_any}
use Rattle.dis_records.specs.declared.entity.EntityId.{EntityId}
use Rattle.dis_records.specs.Entity.{is_addressed, is_open, site_application_of}
use Rattle.siman_pdus.specs.Answers.{same_id}
use Rattle.exercise_review.specs.declared.filter.Filter.{Filter}
use Rattle.exercise_review.specs.declared.filter.Filter.TheVariants as filters
use Rattle.exercise_review.specs.declared.told.OrderAt.{OrderAt}
use Rattle.dis_records.specs.declared.address.SiteApplication.{SiteApplication}
use Rattle.exercise_review.specs.declared.span.Span.{Span}
use Rattle.exercise_review.specs.declared.tally.StationCounts.{StationCounts}
use Rattle.exercise_review.specs.Tally.{same_fate}

-- ---- addresses and entities

abbrev pub same_address : SiteApplication → SiteApplication → Bool
same_address a b = (a.site == b.site) && (a.application == b.application)

abbrev pub is_there : SiteApplication → Option SiteApplication → Bool
is_there a None = false
is_there a (Some b) = same_address a b

-- an address is this one, or is missing
abbrev pub is_there_or_none : SiteApplication → Option SiteApplication → Bool
is_there_or_none a None = not false
is_there_or_none a (Some b) = same_address a b

abbrev pub same_entity : EntityId → EntityId → Bool
same_entity a b = same_address (site_application_of a) (site_application_of b) && (a.entity == b.entity)

-- an order covers an entity: it addresses the entity's station, and its entity number is that of the entity or open
abbrev pub covers_entity : EntityId → OrderAt → Bool
covers_entity id x = is_addressed x.to (site_application_of id) && ((x.to.entity == id.entity) || is_open x.kind x.to.entity)

-- ---- what passes a filter

-- rows of stations: of that station, and under no other key
abbrev pub passes_station : StationCounts → Filter → Bool
passes_station x (filters.Station a) = same_address a x.at
passes_station x filter = false

-- rows of orders: from or at that station; at the entity's station or without a party, if the target covers the entity;
-- of that request of that maker; of that fate; none by a name
abbrev pub passes_order : OrderAt → Filter → Bool
passes_order x (filters.Station a) = same_address a x.from || is_there a x.at
passes_order x (filters.Entity id) = is_there_or_none (site_application_of id) x.at && covers_entity id x
passes_order x (filters.Request a n) = same_address a x.from && same_id x.request (Some n)
passes_order x (filters.Fate f) = same_fate f x.outcome.fate
passes_order x (filters.Kind name) = false

-- rows of states: of the entities of that station; of that entity; begun by that request; none under a fate, and none
-- by a name
abbrev pub passes_span : Span → Filter → Bool
passes_span x (filters.Station a) = same_address a (site_application_of x.entity)
passes_span x (filters.Entity id) = same_entity id x.entity
passes_span x (filters.Request a n) = is_there a x.by && same_id x.request (Some n)
passes_span x (filters.Fate f) = false
passes_span x (filters.Kind name) = false

-- ---- filters together

-- the number of the key of a filter
abbrev pub key_of : Filter → ℕ
key_of (filters.Station a) = 0
key_of (filters.Entity id) = 1
key_of (filters.Request a n) = 2
key_of (filters.Fate f) = 3
key_of (filters.Kind name) = 4

abbrev pub is_under : ℕ → Filter → Bool
is_under key filter = key_of filter == key

abbrev pub passes_under : ℕ → (Filter → Bool) → Filter → Bool
passes_under key test filter = is_under key filter && test filter

-- one of the filters under a key passes, or there are none under it
unfoldable pub holds_under : (Filter → Bool) → List Filter → ℕ → Bool
holds_under test fs key = not (list_any (is_under key) fs) || list_any (passes_under key test) fs

-- FILTERS SELECT a row for which `test` says which filters it passes
unfoldable pub keeps : List Filter → (Filter → Bool) → Bool
keeps fs test = holds_under test fs 0 && (holds_under test fs 1 && (holds_under test fs 2 && (holds_under test fs 3 && holds_under test fs 4)))

-- THE STATIONS, ORDERS AND SPANS that filters select, in order
abbrev pub filtered_stations : List Filter → List StationCounts → List StationCounts
filtered_stations fs xs = filter (λ x. keeps fs (passes_station x)) xs

abbrev pub filtered_orders : List Filter → List OrderAt → List OrderAt
filtered_orders fs xs = filter (λ x. keeps fs (passes_order x)) xs

abbrev pub filtered_spans : List Filter → List Span → List Span
filtered_spans fs xs = filter (λ x. keeps fs (passes_span x)) xs

-- ---- some of a list

-- SOME OF A LIST, in their order
abbrev pub ArePart : {X : Type 0} → List X → List X → Type 0
ArePart xs [] = xs ≡ []
ArePart {X = X} xs (y ∷ ys) = ArePart xs ys ⊎ ((zs : List X) × (xs ≡ y ∷ zs) × ArePart zs ys)
