-- One line after the other is read, taken and told, and what comes between them.
use Rattle.std.proofs.Common.{◌≡◌, ℕ, ◌+◌, ◌≤◌, length, arith, ◌∙◌, sym, subst, length-take-le}
use Rattle.siman_operator.proofs.Offered.{goes_none, goes_then}
use Rattle.siman_operator.specs.declared.reading.TheConstants.{LONGEST_LINE}
use Rattle.siman_operator.proofs.Played.{none_going, going_on, size_within, all_played, quit_played, over_played, number_within}
use Rattle.siman_operator.proofs.playing.play_lines.Goals as goal

pub loop-init : goal.loop-init
loop-init g c = (c.requires, omega arith, none_going _ _ _ _ _ _ _ c.nothing-told.ensures, goes_none _)

pub returns-in_default-size-clause-plays : goal.returns-in_default-size-clause-plays
returns-in_default-size-clause-plays g c =
    all_played c.loop.invariant.2 (record { goes = c.in-Ok.ensures.goes }) (sym c.size.ensures ∙ c.in_default-size.is)

pub slice_bounds-said-end : goal.slice_bounds-said-end
slice_bounds-said-end g c = size_within c.loop.invariant.2 (record { goes = c.in-Ok.ensures.goes }) (sym c.size.ensures ∙ c.in-Some.is)

pub slice_bounds-said-end-in-loop : goal.slice_bounds-said-end-in-loop
slice_bounds-said-end-in-loop g c =
    sym (length-take-le _ _ (size_within c.loop.invariant.2 (record { goes = c.in-Ok.ensures.goes }) (sym c.size.ensures ∙ c.in-Some.is)))

pub returns-then-is_quit-clause-plays : goal.returns-then-is_quit-clause-plays
returns-then-is_quit-clause-plays g c =
    let size : length c.next_step.new.buffer ≡ LONGEST_LINE + 1 = omega (arith, c.loop.invariant.0, c.next_step.auto.buffer) in
    quit_played c.loop.invariant.2 (record { goes = c.in-Ok.ensures.goes }) (sym c.size.ensures ∙ c.in-Some.is) size (c.is_quit.ensures.quits c.if-is_quit.true)

pub returns-then-is_over-clause-plays : goal.returns-then-is_over-clause-plays
returns-then-is_over-clause-plays g c =
    let taken = c.take_coming-came.ensures in
    let size : length c.next_step.new.buffer ≡ LONGEST_LINE + 1 = omega (arith, c.loop.invariant.0, c.next_step.auto.buffer) in
    over_played c.loop.invariant.2 (record { goes = c.in-Ok.ensures.goes }) (sym c.size.ensures ∙ c.in-Some.is) c.number-number.ensures size (record {
      ticked = c.in-Ok.ensures.ticks;
      takes = taken.takes;
      print_stop = taken.print_stop;
      site = taken.site;
      application = taken.application;
      reason = taken.reason;
      nobody = taken.nobody;
    })
    c.and_line-told.ensures.status c.and_line-told.ensures.told (sym c.is_over.ensures ∙ c.if-is_over.true)

pub returns-then-is_over-clause-goes : goal.returns-then-is_over-clause-goes
returns-then-is_over-clause-goes g c = goes_then _ _ _ c.loop.invariant.3 c.take_coming-came.ensures.goes

pub loop-preserved : goal.loop-preserved
loop-preserved g c =
    let taken = c.take_coming-came.ensures in
    let size : length c.next_step.new.buffer ≡ LONGEST_LINE + 1 = omega (arith, c.loop.invariant.0, c.next_step.auto.buffer) in
    let on = going_on c.loop.invariant.2 (record { goes = c.in-Ok.ensures.goes }) (sym c.size.ensures ∙ c.in-Some.is) c.number-number.ensures size (record {
      ticked = c.in-Ok.ensures.ticks;
      takes = taken.takes;
      print_stop = taken.print_stop;
      site = taken.site;
      application = taken.application;
      reason = taken.reason;
      nobody = taken.nobody;
    })
    c.and_line-told.ensures.status c.and_line-told.ensures.told (sym c.is_over.ensures ∙ c.if-is_over.false) in (
      size,
      subst (λ (n : ℕ). n ≤ c.loop.counter + 1) (sym c.number-number.ensures) (number_within c.loop.number c.loop.counter c.in-Ok.come.coming c.loop.invariant.1),
      on,
      goes_then _ _ _ c.loop.invariant.3 taken.goes,
    )
