use native.Mathlib.Omega.{arith}
use mathlib.Core.Path.{refl, sym, ap, ◌∙◌}
use lib.ListN.{length, replicate}
use lib.Seq.{length-take-le}
use Rattle.trace.specs.Text.{bad_scheme}
use Rattle.listing.proofs.Events.{scheme_put, unknown_put}
use Rattle.listing.proofs.Texts.{line_written, put_moved, put_written}
use Rattle.listing.proofs.Page.put_all.Goals as goal

pub returns-in-Some : goal.returns-in-Some
returns-in-Some c = let a = c.args in
    let s = a.self.now in
    let t = c.put_lines in
    record {
      same = t.ensures.same;
      from = t.ensures.from;
      put = put_moved s.from s.from _ _ s.at 0 _ _ refl (sym c.requires) (scheme_put s.from a.word.now a.bytes.now s.buffer.now _ _ c.in-Some.scheme (sym c.in-Some.is ∙ c.scheme_of.ensures) (put_moved s.from s.from _ _ 0 s.at _ _ refl c.requires t.ensures.put));
    }

pub slice_bounds-line-end : goal.slice_bounds-line-end
slice_bounds-line-end c = let d = c.put_bad_scheme-n in omega (arith, d.auto.buffer, d.ensures.value)

pub slice_bounds-put_text-end : goal.slice_bounds-put_text-end
slice_bounds-put_text-end c = let d = c.put_bad_scheme-n in sym (length-take-le d.result d.new.buffer (omega (arith, d.auto.buffer, d.ensures.value)))

pub put_text-requires : goal.put_text-requires
put_text-requires c = let d = c.put_bad_scheme-n in omega (arith, ap length (line_written (replicate 160 0) d.new.buffer bad_scheme d.result d.ensures.value d.ensures.buffer_after (omega arith)), c.requires)

pub returns-in-None : goal.returns-in-None
returns-in-None c = let a = c.args in
    let s = a.self.now in
    let d = c.put_bad_scheme-n in
    let t = c.put_text in
    let put = put_written s.from s.buffer.now t.new.self.buffer.now (replicate 160 0) d.new.buffer bad_scheme s.at d.result t.new.self.at d.ensures.value d.ensures.buffer_after (omega arith) t.ensures.put in
    record {
      same = t.ensures.same;
      from = t.ensures.from;
      put = put_moved s.from s.from _ _ s.at 0 _ _ refl (sym c.requires) (unknown_put s.from a.word.now a.bytes.now s.buffer.now _ _ (sym c.in-None.is ∙ c.scheme_of.ensures) (put_moved s.from s.from _ _ 0 s.at _ _ refl c.requires put));
    }
