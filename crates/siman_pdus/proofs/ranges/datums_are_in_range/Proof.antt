-- The types say it: the reference that comes in tells the fact, and nothing is done.
use Rattle.std.proofs.Common.{[], ◌∷◌, List, refl}
use Rattle.std.proofs.raw_atomic.Walks.{proved}
use base.Fml.{ftrue, flft}
use base.Logic.{guard_i}
use contract.Monad.{fact_use}
use contract.Running.{tables}
use denote.Exit.{yes}
use denote.Known.{shr_known}
use denote.Ref.{ShrRef, shr_vals, shr_Tells}
use denote.Signature.{plain}
use denote.Steps.{nothing}
use denote.Triple.Walked.{Stays, walk_of, says, stay_none_ref, Goes-none_ref, ends_at}
use mir.Syntax.{named}
use mir.Val.{Val, vunit}
use types.ByLocal.{alloc_all, pass_all, free_all, look_at, sets}
use types.Kit.{‵, ◌⊛◌, given, ◌$◌, ◌∵◌, !, qed, done, move, keep, use1, split, join, feq_i, learn, suffices, frame}
use types.Logic.{sem}
use types.Run.{enter, of_opd, unit_lit, returns}
use Rattle.siman_pdus.specs.contracts.datums.Datums as Datums
use Rattle.siman_pdus.specs.contracts.ranges.datums_are_in_range as f
use Rattle.siman_pdus.proofs.ranges.datums_are_in_range.Statement.{statement}
use Rattle.siman_pdus.proofs.ranges.datums_are_in_range.Code as code
use Rattle.siman_pdus.proofs.Types as fact

abbrev stayed : Stays f.ended.signature.params f.ended.kept
stayed = (stay_none_ref (0 ∷ []) tt (plain (λ _. Datums.the_row)) yes, tt)

pub datums_are_in_range_spec : {M : Type 1} → statement M
datums_are_in_range_spec 𝓤 𝓛 𝓜 𝓡 wired =
    let c = f.clauses 𝓛 𝓜.mem 𝓡.returns in let W = walk_of 𝓛 f.ended stayed c in let 𝓣 = tables 𝓤 𝓛.H 𝓜 𝓡 𝓡.env in
    proved 𝓛 f.ended stayed c 𝓜 𝓡 (Goes-none_ref 𝓛 1 (0 ∷ []) tt (plain (λ _. Datums.the_row)) yes, tt)
    f.Key.name code.function (code.unfolded 𝓤 𝓛.H 𝓜 𝓡 wired)
    (λ κs. (shr_vals, tt)) (λ κs. (shr_Tells (named 0) κs.0 Datums.the_row, tt)) (λ κs qs bounds a _ are.
    let vs = shr_vals a.0 in
    let y : W.Ghost = ((κs, qs, bounds, a, (vs, tt)), tt) in
    let Lent = (ShrRef (named 0) κs.0 Datums.the_row).own_val a.0 vs in
    let known = shr_known Datums.the_row fact.datums (named 0) κs.0 in
    qed 𝓛 (((‵ (flft κs.0 qs.0) ⊛ ‵ ftrue) ⊛ ‵ Lent ⊛ ‵ ftrue) ∷ ‵ ftrue ∷ []) ∵
    split ! $ split ! $ move ! (2 ∷ []) $ split ! $
    -- what the reference tells
    use1 𝓛 (given (known.Fact a.0) (‵ Lent)) (fact_use 𝓤 (known.Fact a.0) ((known.owned a.0 vs).go _ 𝓤 𝓛) (guard_i 𝓤 (known.Fact a.0) (sem 𝓛 Lent))) $ learn !
    (λ told.
    -- [the reference; the token of its lifetime]
    keep ! (0 ∷ 2 ∷ []) $ enter ! _ _ _ _ _ $ alloc_all ! (λ l. pass_all ! refl ((tt, tt), tt) $
    sets ! (of_opd ! (unit_lit !)) refl (tt, tt) $
    returns ! (look_at ! 0 refl) $ free_all ! refl $
    suffices ! _ (ends_at 𝓛 f.ended stayed c y vunit tt (tt, tt) (tt, tt)) $ says ! (fact.datums_say a.0.now told) $
    nothing ! $ move ! (1 ∷ 0 ∷ []) $ join ! $ nothing ! $ move ! (2 ∷ 0 ∷ []) $ join ! $ frame ! $ frame ! $
    feq_i ! (List Val) (vunit ∷ []) (vunit ∷ []) refl $ done !)))
