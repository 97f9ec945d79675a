-- Any two outcomes that the contracts of this crate's public functions allow are equal: what each returns and leaves in what was lent to it.
use mathlib.Core.Path.{◌≡◌, refl}
use Rattle.model.proofs.Unique.{Unique}
use Rattle.trace.proofs.word.Kinds as word-kinds
use Rattle.trace.proofs.word.Reads as word
use Rattle.trace.proofs.shape_of.Kinds as shape-of-kinds
use Rattle.trace.proofs.shape_of.Reads as shape_of
use Rattle.trace.proofs.event_at.Kinds as event-at-kinds
use Rattle.trace.proofs.event_at.Reads as event-at
use Rattle.trace.proofs.copy_cells.Kinds as copy-cells-kinds
use Rattle.trace.proofs.copy_cells.Reads as copy-cells
use Rattle.trace.proofs.put_e.Kinds as put-e-kinds
use Rattle.trace.proofs.put_e.Reads as put-e
use Rattle.trace.proofs.put_a.Kinds as put-a-kinds
use Rattle.trace.proofs.put_a.Reads as put_a
use Rattle.trace.proofs.put_c.Kinds as put-c-kinds
use Rattle.trace.proofs.put_c.Reads as put-c
use Rattle.trace.proofs.put_bad.Kinds as put-bad-kinds
use Rattle.trace.proofs.put_bad.Reads as put-bad
use Rattle.trace.proofs.put_bad_scheme.Kinds as put-bad-scheme-kinds
use Rattle.trace.proofs.put_bad_scheme.Reads as put-bad-scheme

pub word_unique : Unique word-kinds.ps word-kinds.r word.Learnt
word_unique κs a z z' ws ws' p q = (cc, refl)

pub shape_of_unique : Unique shape-of-kinds.ps shape-of-kinds.r shape_of.Learnt
shape_of_unique κs a z z' ws ws' p q = (cc, refl)

pub event_at_unique : Unique event-at-kinds.ps event-at-kinds.r event-at.Learnt
event_at_unique κs a z z' ws ws' p q = (cc, refl)

pub copy_cells_unique : Unique copy-cells-kinds.ps copy-cells-kinds.r copy-cells.Learnt
copy_cells_unique κs a z z' ws ws' p q =
    let b : ws.1.1.0 ≡ ws'.1.1.0 = cc in
    (refl, λ j. (ws.0, (ws.1.0, (b j, ws.1.1.1))))

pub put_e_unique : Unique put-e-kinds.ps put-e-kinds.r put-e.Learnt
put_e_unique κs a z z' ws ws' p q =
    let b : ws.0 ≡ ws'.0 = cc in
    (cc, λ j. (b j, ws.1))

pub put_a_unique : Unique put-a-kinds.ps put-a-kinds.r put_a.Learnt
put_a_unique κs a z z' ws ws' p q =
    let b : ws.0 ≡ ws'.0 = cc in
    (cc, λ j. (b j, ws.1))

pub put_c_unique : Unique put-c-kinds.ps put-c-kinds.r put-c.Learnt
put_c_unique κs a z z' ws ws' p q =
    let b : ws.0 ≡ ws'.0 = cc in
    (cc, λ j. (b j, ws.1))

pub put_bad_unique : Unique put-bad-kinds.ps put-bad-kinds.r put-bad.Learnt
put_bad_unique κs a z z' ws ws' p q =
    let b : ws.0 ≡ ws'.0 = cc in
    (cc, λ j. (b j, ws.1))

pub put_bad_scheme_unique : Unique put-bad-scheme-kinds.ps put-bad-scheme-kinds.r put-bad-scheme.Learnt
put_bad_scheme_unique κs a z z' ws ws' p q =
    let b : ws.0 ≡ ws'.0 = cc in
    (cc, λ j. (b j, ws.1))
