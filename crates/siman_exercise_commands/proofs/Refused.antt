-- The fault of a script whose world does not run.
use Rattle.std.proofs.Common.{◌≡◌, ◌⊎◌, Some, refl, sym, subst, inl, inr}
use Rattle.std.specs.Prelude.{Ok}
use Rattle.siman_scripts.specs.Script.{ScriptData}
use Rattle.siman_stations.specs.declared.world_fault.WorldFault.{WorldFault}
use Rattle.siman_stations.specs.declared.world_fault.WorldFault.TheVariants as worlds
use Rattle.siman_outside.specs.declared.fault.Fault.{Fault}
use Rattle.siman_exercise_commands.specs.Explained.{TextRead, Stopped, GivesWhy}
use Rattle.siman_exercise_commands.specs.World.{refusal_of, YieldsNone}

-- it says why the script yields no recording, and where
pub stopped_yields : (t : TextRead) (s : ScriptData) (fault : WorldFault) (told : Fault) → t.scripted ≡ Ok s
    → (fault ≡ worlds.Memory) ⊎ (refusal_of s ≡ Some fault) → Stopped t fault told → YieldsNone t.scripted told × GivesWhy t told
stopped_yields t s worlds.Stations told read (inl memory) is = absurd cc
stopped_yields t s worlds.Stations told read (inr refused) is =
    subst (λ (f : Fault). YieldsNone t.scripted f × GivesWhy t f) (sym is) ((s, read, refused), tt)
stopped_yields t s (worlds.Move number fault) told read (inl memory) is = absurd cc
stopped_yields t s (worlds.Move number fault) told read (inr refused) (inl memory) =
    subst (λ (f : Fault). YieldsNone t.scripted f × GivesWhy t f) (sym memory) (tt, tt)
stopped_yields t s (worlds.Move number fault) told read (inr refused) (inr (place, placed, is)) =
    subst (λ (f : Fault). YieldsNone t.scripted f × GivesWhy t f) (sym is) ((fault, refl, (s, read, refused)), (place, refl, placed))
stopped_yields t s worlds.Memory told read refused is =
    subst (λ (f : Fault). YieldsNone t.scripted f × GivesWhy t f) (sym is) (tt, tt)
