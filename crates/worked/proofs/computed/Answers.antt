use Rattle.worked.proofs.computed.Goals as goal
use Rattle.worked.proofs.Claims.{relation_computed, st_computed, next_computed, loop_computed, classes_computed, components_computed, settling_computed, truth_computed, totality_computed, reduction_computed}

pub returns : goal.returns
returns c = record {
  relation = relation_computed;
  reach = st_computed;
  next = next_computed;
  looped = loop_computed;
  classes = classes_computed;
  components = components_computed;
  settling = settling_computed;
  truth = truth_computed;
  totality = totality_computed;
  reduction = reduction_computed;
}
