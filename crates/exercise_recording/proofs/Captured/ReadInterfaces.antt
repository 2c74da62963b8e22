-- The interface of a station is read as it is spelled.
use Rattle.std.proofs.Common.{◌≡◌, ℕ, ◌+◌, ◌-◌, ◌≤◌, List, [], ◌∷◌, ◌++◌, length, Option, Some, None, refl, ap, ◌∙◌, length-append, arith}
use Rattle.std.specs.Prelude.{codes, decimal, slice_index}
use Rattle.std.specs.Option.{option_map_or}
use Rattle.std.specs.Int.{w16, w32, w64}
use Rattle.std.proofs.lemmas.Fmt.{length-decimal-le}
use Rattle.dis_records.specs.declared.address.SiteApplication.{SiteApplication}
use Rattle.packet_captures.specs.declared.byte_order.ByteOrder.TheVariants.{Little}
use Rattle.packet_captures.specs.declared.interface.Interface.{Interface}
use Rattle.packet_captures.specs.Interface.{options_from, is_wanted, resolution_of, offset_of, interface_of}
use Rattle.packet_captures.specs.Numbers.{number_at}
use Rattle.packet_captures.specs.Options.{padded, option_value}
use Rattle.packet_captures.specs.Spelling.{number_text}
use Rattle.exercise_recording.specs.Captures.Blocks.{option_text, options_end, name_text, interface_options, interface_body, interface_text}
use Rattle.exercise_recording.specs.Captures.ReadBack.{FitsAddress}
use Rattle.exercise_recording.proofs.Captured.BlockOptions.{options-of, option-length, found_in, option-passed, options-ended}

-- its interface, as it is read
abbrev pub exported_interface : (name : Option (List ℕ)) → SiteApplication → Interface
exported_interface name a =
    record { link = 228; snapshot = 0; wanted = is_wanted name (Some (name_text a)); resolution = 6; offset = 0; lost = 0 }

-- the name has at most 11 bytes
pub name-short : (a : SiteApplication) → FitsAddress a → length (name_text a) ≤ 11
name-short a fits =
    let site = length-decimal-le 5 a.site (omega arith) (omega (arith, fits.site)) (omega (arith, fits.site)) in
    let application = length-decimal-le 5 a.application (omega arith) (omega (arith, fits.application)) (omega (arith, fits.application)) in
    omega (arith, site, application, length-append (decimal a.site) (codes ":" ++ decimal a.application), length-append (codes ":") (decimal a.application))

options-read : (code : ℕ) (size : Option ℕ) (a : SiteApplication) → FitsAddress a
    → option_value Little code size (interface_options a) ≡ found_in code 9 size (found_in code 2 size None (name_text a)) (6 ∷ [])
options-read code size a fits =
    let n : ℕ = length (interface_options a) in
    let behind : List ℕ = option_text 9 (6 ∷ []) ++ options_end in
    let twelve : length behind ≡ 12 = refl in
    let long : n ≡ length (option_text 2 (name_text a)) + length behind = length-append (option_text 2 (name_text a)) behind in
    let short = name-short a fits in
    option-passed n (n - 1) code 2 size None (name_text a) behind (omega (arith, long, twelve)) (omega arith) (omega arith) (omega (arith, short))
    ∙ option-passed (n - 1) (n - 2) code 9 size (found_in code 2 size None (name_text a)) (6 ∷ []) options_end (omega (arith, long, twelve)) (omega arith) (omega arith) (omega arith)
    ∙ options-ended (n - 2) code size (found_in code 9 size (found_in code 2 size None (name_text a)) (6 ∷ []))

block-options : (a : SiteApplication) → options_from 16 (interface_text a) ≡ interface_options a
unfolding interface_text
block-options a =
    options-of 1 8 (number_text Little w16 228 ++ (number_text Little w16 0 ++ number_text Little w32 0)) (interface_options a) refl

-- AN INTERFACE IS READ
pub interface-read : (name : Option (List ℕ)) (a : SiteApplication) → FitsAddress a → interface_of Little name (interface_text a) ≡ exported_interface name a
unfolding interface_of interface_text number_at
interface-read name a fits =
    let options : List ℕ = options_from 16 (interface_text a) in
    let Make : Option (List ℕ) → ℕ → ℕ → Interface =
    λ found resolution offset. record { link = 228; snapshot = 0; wanted = is_wanted name found; resolution = resolution; offset = offset; lost = 0 } in
    let called : option_value Little 2 None options ≡ Some (name_text a) = ap (option_value Little 2 None) (block-options a) ∙ options-read 2 None a fits in
    let ticks : resolution_of Little options ≡ 6 = ap (resolution_of Little) (block-options a) ∙ ap (λ v. option_map_or (λ x. slice_index x 0) v 6) (options-read 9 (Some 1) a fits) in
    let shift : offset_of Little options ≡ 0 = ap (offset_of Little) (block-options a) ∙ ap (λ v. option_map_or (λ x. number_at Little w64 0 x) v 0) (options-read 14 (Some 8) a fits) in
    ap (λ f. Make f (resolution_of Little options) (offset_of Little options)) called
    ∙ ap (λ r. Make (Some (name_text a)) r (offset_of Little options)) ticks ∙ ap (Make (Some (name_text a)) 6) shift

-- its block has a size of so many bytes
pub interface-length : (a : SiteApplication) → length (interface_body a) ≡ 24 + padded (length (name_text a))
interface-length a =
    let behind : List ℕ = option_text 9 (6 ∷ []) ++ options_end in
    let twelve : length behind ≡ 12 = refl in
    let long : length (interface_options a) ≡ length (option_text 2 (name_text a)) + length behind = length-append (option_text 2 (name_text a)) behind in
    let front : List ℕ = number_text Little w16 228 ++ (number_text Little w16 0 ++ number_text Little w32 0) in
    let all : length (interface_body a) ≡ 8 + length (interface_options a) = length-append front (interface_options a) in
    omega (arith, all, long, twelve, option-length 2 (name_text a))
