use Rattle.std.proofs.Common.{◌≡◌, true, [], refl}
use Rattle.siman_stations.proofs.Halves.{halves_begun, halves_take, halves_pass, halves_order, halves_repeat, halves_tell}
use Rattle.siman_stations.proofs.laws.halves_follow_logs.Goals as goal

pub returns-clause-begun : goal.returns-clause-begun
returns-clause-begun c = λ wants s a k closed none own. halves_begun s a k (closed ≡ true) [] refl none own

pub returns-clause-takes : goal.returns-clause-takes
returns-clause-takes c = λ wants s a ds k log closed b q stamp is none read h. halves_take s a ds k log (closed ≡ true) b q stamp is none read h

pub returns-clause-passes : goal.returns-clause-passes
returns-clause-passes c = λ wants s a ds k log closed b why is. halves_pass s a ds k log (closed ≡ true) b why is

pub returns-clause-orders : goal.returns-clause-orders
returns-clause-orders c = λ wants s a ds k log closed order at is x address request none range fits. halves_order s a ds k log (closed ≡ true) order at.now at.stamp fits is x address request none range

pub returns-clause-repeats : goal.returns-clause-repeats
returns-clause-repeats c = λ wants s a ds k log closed at p is x address due fits. halves_repeat s a ds k log (closed ≡ true) at.now at.stamp fits p is x address due

pub returns-clause-tells : goal.returns-clause-tells
returns-clause-tells c = λ wants s a ds k log closed e is none. halves_tell s a ds k log (closed ≡ true) e _ is none refl
