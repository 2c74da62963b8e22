-- Short texts, which a fault carries with it (profile).
use Rattle.std.specs.Prelude.{ℕ, List, take}
use Rattle.siman_outside.specs.declared.short_texts.ShortText.{ShortText}

abbrev pub short_bytes : ShortText → List ℕ
short_bytes short = take short.length short.bytes
