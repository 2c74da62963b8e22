-- Site and application of a simulation address (IEEE 1278.1-2012, 6.2.79).
use Rattle.std.specs.Prelude.{ℕ, ◌≡◌, ◌<◌, ◌⊎◌, Bool, ◌&&◌, nat_le}
use Rattle.dis_records.specs.declared.address.SiteApplication.{SiteApplication}
use Rattle.dis_records.specs.declared.address.TheConstants.{LARGEST_ADDRESS_PART}
use Rattle.std.specs.Ordering.{nat_cmp, then_cmp, on}
use Rattle.std.specs.declared.cmp.Ordering.{Ordering}

-- the number of a single site or application: not none (0) and not all (0xFFFF)
abbrev pub is_address_part : ℕ → Bool
is_address_part n = nat_le 1 n && nat_le n LARGEST_ADDRESS_PART

-- an address: a single site and a single application
abbrev pub is_address : SiteApplication → Bool
is_address p = is_address_part p.site && is_address_part p.application

-- THE ORDER of addresses: they are compared first by site, then by application
abbrev pub compared : SiteApplication → SiteApplication → Ordering
compared a b = then_cmp (on (λ (p : SiteApplication). p.site) nat_cmp) (on (λ (p : SiteApplication). p.application) nat_cmp) a b

-- One is before the other: its site is lower, or, at an equal site, its application.
abbrev pub IsBefore : SiteApplication → SiteApplication → Type 0
IsBefore a b = (a.site < b.site) ⊎ ((a.site ≡ b.site) × (a.application < b.application))
