use Prim.Native.Nat.{◌+◌}
use native.Mathlib.Omega.{arith}
use mathlib.Core.Path.{◌≡◌, refl, sym, ◌∙◌}
use Rattle.engine.specs.Called.{Called, called, told_by}
use Rattle.listing.specs.Played.{playing}
use Rattle.listing.proofs.Texts.{put_moved}
use Rattle.listing.proofs.Events.{play_turn, play_end, events_turn, events_end}
use Rattle.listing.proofs.Sizes.{few_called, length-event}
use Rattle.listing.proofs.Page.put_events.Goals.{in-Ok, in-Err}
use Rattle.listing.proofs.Page.put_events.Goals as goal

pub loop-i-preserved : goal.loop-i-preserved
loop-i-preserved c = let a = c.args in
    let s = a.self.now in
    let l = c.loop-i in
    let v = c.event_at-event in
    let m = c.match-done in
    let z = c.call_by-done.result in
    let n = c.call_by-done.new in
    let ok = c.call_by-done.ensures in
    let e = c.put_event in
    let h = c.loop-i-test.true in
    let d : Called = record { number = m.number.0; answers = m.number.1; next = z.next } in
    let same : d ≡ told_by z.answers z.next = elim m.branch [
      | in-Ok w ↦ rw (w.number-is, w.in-Ok.is) refl
      | in-Err w ↦ rw (w.number-is, w.into.ensures, w.in-Err.is) refl
    ] in
    let told : d ≡ called a.scheme l.«record» v.result l.cells l.room = same ∙ ok.value in (
      e.ensures.same ∙ l.invariant.0,
      e.ensures.from ∙ l.invariant.1,
      omega (arith, few_called a.scheme l.«record» v.result l.cells l.room d told, l.invariant.2, e.ensures.put.place, length-event (l.i + 1) d.number d.answers n.room),
      play_turn a.scheme a.bytes.now a.shape.first a.shape.events l.i l.«record» l.cells l.room v.result d n.cells n.room h v.ensures told ok.cells_after ok.room_after _ l.invariant.3,
      events_turn a.scheme a.bytes.now a.shape.first a.shape.events l.i l.«record» l.cells l.room v.result d n.cells n.room h v.ensures told ok.cells_after ok.room_after s.from l.self.buffer.now e.new.self.buffer.now s.buffer.now l.self.at e.new.self.at _ (put_moved s.from l.self.from _ _ _ _ _ _ l.invariant.1 refl e.ensures.put) l.invariant.4,
    )

pub put_event-requires : goal.put_event-requires
put_event-requires c = let a = c.args in
    let l = c.loop-i in
    let m = c.match-done in
    let z = c.call_by-done.result in
    let d : Called = record { number = m.number.0; answers = m.number.1; next = z.next } in
    let same : d ≡ told_by z.answers z.next = elim m.branch [
      | in-Ok w ↦ rw (w.number-is, w.in-Ok.is) refl
      | in-Err w ↦ rw (w.number-is, w.into.ensures, w.in-Err.is) refl
    ] in
    omega (arith, few_called a.scheme l.«record» c.event_at-event.result l.cells l.room d (same ∙ c.call_by-done.ensures.value), l.invariant.2, c.loop-i-test.true, c.requires.2)

pub returns-clause-cells_after : goal.returns-clause-cells_after
returns-clause-cells_after c = let a = c.args in
    let l = c.loop-i in
    play_end a.scheme a.bytes.now a.shape.first a.shape.events l.i c.loop-i-test.false l.«record» l.cells l.room _ l.invariant.3

pub returns-clause-put : goal.returns-clause-put
returns-clause-put c = let a = c.args in
    let s = a.self.now in
    let l = c.loop-i in
    put_moved s.from s.from _ _ s.at 0 _ _ refl (sym c.requires.0) (events_end a.scheme a.bytes.now a.shape.first a.shape.events l.i c.loop-i-test.false s.from (playing l.«record» l.cells l.room) l.self.buffer.now s.buffer.now l.self.at _ l.invariant.4)
