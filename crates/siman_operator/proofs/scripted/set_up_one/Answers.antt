-- the halves are those of the only station
use Rattle.std.proofs.Common.{◌≡◌, List, [], ◌∷◌, ◌++◌, map, refl, ap, ◌∙◌, subst}
use Rattle.exercise_model.specs.declared.form.Form.TheVariants.{First}
use Rattle.exercise_model.specs.Recording.{opened}
use Rattle.siman_scripts.specs.Stations.{WorldStationData}
use Rattle.siman_stations.specs.Holds.{AreNewNodes}
use Rattle.siman_operator.proofs.Alone.{only_node}
use Rattle.siman_operator.proofs.scripted.set_up_one.Goals as goal

pub returns : goal.returns
returns c =
    let alone : c.push.new.self.items ≡ c.args.station ∷ [] =
    c.in_ok-push.ensures.items ∙ ap (λ (l : List WorldStationData). l ++ c.args.station ∷ []) c.new-stations.ensures.items in
    record {
      head =
          c.in-Ok.ensures.recording
          ∙ ap (λ (ss : List WorldStationData). opened (record { form = First; exercise = c.args.exercise; stations = map (λ s. s.station) ss })) alone;
      node =
          only_node c.args.exercise c.args.station c.in-Ok.beginning.nodes.items c.pop.new.self.items c.in-Some.node
          (subst (λ (ss : List WorldStationData). AreNewNodes c.args.exercise ss c.in-Ok.beginning.nodes.items) alone c.in-Ok.ensures.nodes) c.in-Some.ensures.items;
      stations = refl;
      wait = ap (λ (s : WorldStationData). s.wait) c.station.view_is;
    }
