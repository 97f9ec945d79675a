-- Demand 3 and request L10 of the library's calls: those of records, at the events that words stand for.
use mathlib.Core.List.{List, [], ◌∷◌}
use Rattle.model.specs.Operations.{Cells}
use Rattle.carried.specs.Carried.{AllWords}
use Rattle.carried.proofs.Carrying.{carried}
use Rattle.carried.proofs.Merging.{order_on_records}
use Rattle.record.proofs.Events.{event_eight}
use Rattle.boundary.specs.Demanded.{LibraryCall, as_call, as_calls, LibraryDemand3}
use Rattle.boundary.specs.Merged.{LibraryOrderMakesNoOdds}

all_eight : (calls : List LibraryCall) → AllWords (as_calls calls)
all_eight [] = tt
all_eight (c ∷ calls) = (event_eight c.words, all_eight calls)

pub library_demand3 : (cs : Cells) → LibraryDemand3 cs
library_demand3 cs = record {
  cells = λ calls l. (carried cs).cells (as_calls calls) (all_eight calls) l;
  queues = λ calls l. (carried cs).queues (as_calls calls) (all_eight calls) l;
  settling = λ calls l c k. (carried cs).settling (as_calls calls) (all_eight calls) l (as_call c) k;
  plain = λ calls l c k. (carried cs).plain (as_calls calls) (all_eight calls) l (as_call c) (event_eight c.words) k;
  dependent = λ calls l c k between b d. (carried cs).dependent (as_calls calls) (all_eight calls) l (as_call c) (event_eight c.words) k (as_calls between) (all_eight between) b (as_call d);
  seen = λ calls l c k between b d. (carried cs).seen (as_calls calls) (all_eight calls) l (as_call c) (event_eight c.words) k (as_calls between) (all_eight between) b (as_call d);
  never = λ calls c. (carried cs).never (as_calls calls) (all_eight calls) (as_call c);
}

pub library_order : (cs : Cells) → LibraryOrderMakesNoOdds cs
library_order cs = record {
  cells = λ calls calls' m. (order_on_records cs).cells (as_calls calls) (as_calls calls') (all_eight calls) (all_eight calls') m;
  singles = λ calls calls' m. (order_on_records cs).singles (as_calls calls) (as_calls calls') (all_eight calls) (all_eight calls') m;
  answered = λ calls l. (order_on_records cs).answered (as_calls calls) (all_eight calls) l;
  settling = λ calls calls' m. (order_on_records cs).settling (as_calls calls) (as_calls calls') (all_eight calls) (all_eight calls') m;
  late = λ calls l c. (order_on_records cs).late (as_calls calls) (all_eight calls) l (as_call c);
}
