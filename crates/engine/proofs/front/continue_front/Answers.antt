use Prim.Native.Nat.{◌≤◌}
use mathlib.Core.Path.{◌≡◌, refl}
use lib.ListN.{length}
use Rattle.engine.proofs.Deciding.{continued, entries_by_row}
use borrow.Author.Rules.{rules}
use Rattle.engine.proofs.front.continue_front.Goals as goal

pub note_entries-entries-requires : goal.note_entries-entries-requires
note_entries-entries-requires c = let r = c.continue_fragment-r in
    let row : length r.result.undo ≡ 16 = search (r, rules) in
    let few : r.result.entries ≤ 8 = entries_by_row _ r.result r.ensures.value row in
    (c.requires.fair.entries, few)

pub returns : goal.returns
returns c = let a = c.args in
    let p = c.requires in
    let r = c.continue_fragment-r in
    let n = c.note_entries-entries in record {
      continued = continued a.live.now a.runs.now a.undo.now a.room.now c.run_again.new.runs n.new.undo c.put_answer.new.room a.cells.now r.new.cells a.c _ a.f c.trial_at-own.result n.result r.result
          p.fair p.some_uncommitted c.trial_at-own.ensures r.ensures.value r.ensures.cells_after n.ensures.value n.ensures.undo_after c.run_again.ensures c.put_answer.ensures refl;
      kept = (refl, refl, refl);
    }
