-- Which options the commands take (profile).
use Rattle.std.specs.Prelude.{ℕ, Bool, true, false}
use Rattle.siman_outside.specs.declared.commands.OneWord.{OneWord}
use Rattle.siman_outside.specs.declared.commands.OneWord.TheVariants.{Show}
use Rattle.siman_outside.specs.declared.commands.TwoWords.{TwoWords}
use Rattle.siman_outside.specs.declared.commands.TwoWords.TheVariants.{Check, Audit, Live, Export}
use Rattle.siman_outside.specs.declared.commands.ViewWord.TheVariants.{Review}
use Rattle.siman_outside.specs.declared.commands.Takes.{Takes}
use Rattle.siman_outside.specs.declared.commands.Takes.TheVariants as shapes

-- the commands that take `--json`
abbrev pub takes_json : Takes → Bool
takes_json (shapes.View view) = true
takes_json shapes.PerhapsTwo = true
takes_json shapes.Source = true
takes_json takes = false

-- the command that takes `--prose`
abbrev pub takes_prose : Takes → Bool
takes_prose (shapes.View Review) = true
takes_prose takes = false

-- the commands that make a file and can replace an existing one, and so take `--force`
abbrev pub makes_file : TwoWords → Bool
makes_file Check = false
makes_file Live = false
makes_file command = true

abbrev pub takes_force : Takes → Bool
takes_force (shapes.Two command) = makes_file command
takes_force shapes.Pieces = true
takes_force shapes.Capture = true
takes_force shapes.Picture = true
takes_force shapes.Source = true
takes_force takes = false

-- the command with one word whose word is a recording
abbrev pub shows_recording : OneWord → Bool
shows_recording Show = true
shows_recording command = false

-- the commands with two words that say something of the recording in the first
abbrev pub tells_of_recording : TwoWords → Bool
tells_of_recording Check = true
tells_of_recording Audit = true
tells_of_recording Export = true
tells_of_recording command = false

-- THE COMMANDS THAT TAKE `--torn`: those that say something of a recording
abbrev pub takes_torn : Takes → Bool
takes_torn (shapes.One command) = shows_recording command
takes_torn (shapes.Two command) = tells_of_recording command
takes_torn (shapes.View view) = true
takes_torn shapes.PerhapsTwo = true
takes_torn shapes.Picture = true
takes_torn takes = false

-- the largest number of times that something may occur: once if it is allowed
abbrev pub most : Bool → ℕ
most true = 1
most false = 0
