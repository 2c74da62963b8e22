-- Filters, as words KEY=VALUE (profile).
use Rattle.std.specs.Prelude.{ℕ, List, codes, Option, Some, None, option_map, if◌then◌else◌}
use Rattle.std.specs.Option.{option_or}
use Rattle.std.specs.Str.{bytes_eq}
use Rattle.dis_records.specs.declared.kind.Kind.{Kind}
use Rattle.dis_records.specs.declared.kind.Kind.TheVariants as kinds
use Rattle.dis_records.specs.Texts.{kind_text}
use Rattle.exercise_review.specs.declared.fate.Fate.{Fate}
use Rattle.exercise_review.specs.declared.fate.Fate.TheVariants as fates
use Rattle.exercise_review.specs.declared.filter.EntryName.{EntryName}
use Rattle.exercise_review.specs.declared.filter.EntryName.TheVariants as names
use Rattle.exercise_review.specs.declared.filter.Filter.{Filter}
use Rattle.exercise_review.specs.declared.filter.Filter.TheVariants as filters
use Rattle.dis_records.specs.declared.address.SiteApplication.{SiteApplication}
use Rattle.exercise_review.specs.Fate.{fate_text}
use Rattle.byte_files.specs.Text.{cut_at, number_to, ◌>>=◌}
use Rattle.siman_scripts.specs.Statement.{target_of}
use Rattle.siman_outside.specs.declared.commands.ViewWord.{ViewWord}
use Rattle.siman_outside.specs.declared.commands.ViewWord.TheVariants.{Review, Log, Count}

-- `S:A`, a site and an application: each number in 0 to 65535
abbrev pub outsider_of : List ℕ → Option SiteApplication
outsider_of word = do
  p ← cut_at 58 word
  site ← number_to 65535 p.0
  application ← number_to 65535 p.1
  Some (record { site = site; application = application })

-- `S:A/N`, a request by its sender and its identifier of 32 bits
abbrev pub request_of : List ℕ → Option Filter
request_of word = do
  p ← cut_at 47 word
  asker ← outsider_of p.0
  request ← number_to 4294967295 p.1
  Some (filters.Request asker request)

-- the fate with a name
abbrev pub fate_of : List ℕ → Option Fate
fate_of word =
    if bytes_eq word (fate_text fates.Done) then Some fates.Done
    else if bytes_eq word (fate_text fates.Answered) then Some fates.Answered
    else if bytes_eq word (fate_text fates.Refused) then Some fates.Refused
    else if bytes_eq word (fate_text fates.Pending) then Some fates.Pending
    else if bytes_eq word (fate_text fates.Unheard) then Some fates.Unheard
    else if bytes_eq word (fate_text fates.Unanswered) then Some fates.Unanswered
    else if bytes_eq word (fate_text fates.Lost) then Some fates.Lost
    else if bytes_eq word (fate_text fates.Unknown) then Some fates.Unknown
    else if bytes_eq word (fate_text fates.Nobody) then Some fates.Nobody
    else None

-- the kind of request with a name, and another kind of PDU
abbrev pub request_kind_of : List ℕ → Option Kind
request_kind_of word =
    if bytes_eq word (kind_text kinds.CreateEntity) then Some kinds.CreateEntity
    else if bytes_eq word (kind_text kinds.RemoveEntity) then Some kinds.RemoveEntity
    else if bytes_eq word (kind_text kinds.StartResume) then Some kinds.StartResume
    else if bytes_eq word (kind_text kinds.StopFreeze) then Some kinds.StopFreeze
    else if bytes_eq word (kind_text kinds.ActionRequest) then Some kinds.ActionRequest
    else if bytes_eq word (kind_text kinds.DataQuery) then Some kinds.DataQuery
    else if bytes_eq word (kind_text kinds.SetData) then Some kinds.SetData
    else None

abbrev pub other_kind_of : List ℕ → Option Kind
other_kind_of word =
    if bytes_eq word (kind_text kinds.Acknowledge) then Some kinds.Acknowledge
    else if bytes_eq word (kind_text kinds.ActionResponse) then Some kinds.ActionResponse
    else if bytes_eq word (kind_text kinds.DataPdu) then Some kinds.DataPdu
    else if bytes_eq word (kind_text kinds.EventReport) then Some kinds.EventReport
    else if bytes_eq word (kind_text kinds.Comment) then Some kinds.Comment
    else None

abbrev pub kind_of : List ℕ → Option Kind
kind_of word = option_or (request_kind_of word) (other_kind_of word)

-- the name of an entry: that of the kind of its PDU, or `told` or `other`
abbrev pub name_of : List ℕ → Option EntryName
name_of word =
    if bytes_eq word (codes "told") then Some names.Told
    else if bytes_eq word (codes "other") then Some names.Other
    else option_map names.Kind (kind_of word)

-- `kind=NAME`, a filter of entries
abbrev pub kind_filter : (key word : List ℕ) → Option Filter
kind_filter key word = if bytes_eq key (codes "kind") then option_map filters.Kind (name_of word) else None

-- the filter for a key that not each view has: `fate=WORD` of `review`, `kind=NAME` of `log` and `count`
abbrev pub own_filter : ViewWord → (key word : List ℕ) → Option Filter
own_filter Review key word = if bytes_eq key (codes "fate") then option_map filters.Fate (fate_of word) else None
own_filter Log key word = kind_filter key word
own_filter Count key word = kind_filter key word

-- the filter of a view for a key and its value
abbrev pub filter_by : ViewWord → (key word : List ℕ) → Option Filter
filter_by view key word =
    if bytes_eq key (codes "station") then option_map filters.Station (outsider_of word)
    else if bytes_eq key (codes "entity") then option_map filters.Entity (target_of word)
    else if bytes_eq key (codes "request") then request_of word
    else own_filter view key word

-- THE FILTER THAT A WORD IS for a view: `station=S:A`, `entity=S:A:E`, `request=S:A/N`, for `review` `fate=WORD` and for `log` and `count` `kind=NAME`; numbers are decimal and may have leading zeros
abbrev pub filter_of : ViewWord → List ℕ → Option Filter
filter_of view word = do
  p ← cut_at 61 word
  filter_by view p.0 p.1
