use mathlib.Core.Path.{refl, sym}
use lib.Seq.{length-take-le}
use Rattle.listing.proofs.Events.{cleared_put}
use Rattle.listing.proofs.Texts.{put_moved}
use Rattle.listing.proofs.Page.put_run.Goals as goal

pub slice_bounds-put_trace-end : goal.slice_bounds-put_trace-end
slice_bounds-put_trace-end c = sym (length-take-le c.args.shape.cells _ c.requires.1)

pub returns : goal.returns
returns c = let a = c.args in
    let s = a.self.now in
    let t = c.put_trace in
    record {
      same = t.ensures.same;
      from = t.ensures.from;
      put = put_moved s.from s.from _ _ s.at 0 _ _ refl (sym c.requires.0) (cleared_put s.from a.scheme a.bytes.now a.shape s.buffer.now _ _ c.requires.1 (put_moved s.from s.from _ _ 0 s.at _ _ refl c.requires.0 t.ensures.put));
    }
