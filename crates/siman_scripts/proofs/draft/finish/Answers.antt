use Rattle.std.proofs.Common.{sym, ◌∙◌, rules}
use Rattle.std.proofs.lemmas.List.{map-id}
use Rattle.std.proofs.lemmas.Iterator.Consumers.{YieldsList-end}
use Rattle.std.proofs.lemmas.Iterator.Adapters.{YieldsList-from_vec}
use Rattle.siman_scripts.proofs.draft.finish.Goals as goal

pub returns : goal.returns
returns c =
    let it = c.into_iter-draft-iterator in
    let e = YieldsList-end (YieldsList-from_vec {s = it.result} c.args.drafts.items (search rules) (search rules)) c.loop-draft.yielded c.loop-draft.draft-iterator c.loop-draft.yielded_by c.next.result c.next.new.self c.in-None.is c.next.ensures.steps in
    c.loop-draft.invariant ∙ (sym (map-id c.loop-draft.yielded) ∙ e.0)
