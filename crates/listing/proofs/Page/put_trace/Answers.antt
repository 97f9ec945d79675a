use native.Mathlib.Omega.{arith}
use mathlib.Core.Path.{refl, sym, ◌∙◌}
use Rattle.listing.specs.Played.{playing}
use Rattle.listing.proofs.Events.{trace_put}
use Rattle.listing.proofs.Sizes.{length_events}
use Rattle.listing.proofs.Texts.{put_moved}
use Rattle.listing.proofs.Page.put_trace.Goals as goal

pub put_cells-requires : goal.put_cells-requires
put_cells-requires c = let a = c.args in
    omega (arith, c.put_events.ensures.put.place, length_events a.scheme a.bytes.now 1 a.shape.first a.shape.events (playing c.start.result.next c.copy_cells.new.cells a.room.now), c.requires.0, c.requires.1, c.requires.3)

pub returns : goal.returns
returns c = let a = c.args in
    let s = a.self.now in
    let f = c.start in
    let e = c.put_events in
    let d = c.put_cells in
    let p = put_moved s.from s.from _ _ 0 s.at _ _ refl c.requires.0 e.ensures.put in
    record {
      same = d.ensures.same ∙ e.ensures.same;
      from = d.ensures.from ∙ e.ensures.from;
      put = put_moved s.from s.from _ _ s.at 0 _ _ refl (sym c.requires.0) (trace_put s.from a.scheme a.bytes.now a.shape a.cells.now _ _ a.room.now s.buffer.now _ _ e.new.self.at _ f.result f.ensures c.copy_cells.ensures e.ensures.cells_after p (put_moved s.from e.new.self.from _ _ _ _ _ _ e.ensures.from refl d.ensures.put));
    }
