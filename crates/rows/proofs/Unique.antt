-- Any two outcomes that the contracts of this crate's public functions allow are equal: what each returns and leaves in what was lent to it.
use mathlib.Core.Path.{◌≡◌, refl}
use Rattle.model.proofs.Unique.{Unique}
use Rattle.rows.proofs.may_take.Kinds as may-take-kinds
use Rattle.rows.proofs.may_take.Reads as may-take
use Rattle.rows.proofs.same_coordinator.Kinds as same-coordinator-kinds
use Rattle.rows.proofs.same_coordinator.Reads as same-coordinator
use Rattle.rows.proofs.nearer.Kinds as nearer-kinds
use Rattle.rows.proofs.nearer.Reads as nearer
use Rattle.rows.proofs.trial_at.Kinds as trial-at-kinds
use Rattle.rows.proofs.trial_at.Reads as trial-at
use Rattle.rows.proofs.raise_attempts.Kinds as raise-attempts-kinds
use Rattle.rows.proofs.raise_attempts.Reads as raise-attempts
use Rattle.rows.proofs.place_ran.Kinds as place-ran-kinds
use Rattle.rows.proofs.place_ran.Reads as place-ran
use Rattle.rows.proofs.run_alone.Kinds as run-alone-kinds
use Rattle.rows.proofs.run_alone.Reads as run_alone
use Rattle.rows.proofs.put_answer.Kinds as put-answer-kinds
use Rattle.rows.proofs.put_answer.Reads as put-answer
use Rattle.rows.proofs.put_held.Kinds as put-held-kinds
use Rattle.rows.proofs.put_held.Reads as put-held
use Rattle.rows.proofs.mark_sent.Kinds as mark-sent-kinds
use Rattle.rows.proofs.mark_sent.Reads as mark-sent
use Rattle.rows.proofs.run_again.Kinds as run-again-kinds
use Rattle.rows.proofs.run_again.Reads as run-again
use Rattle.rows.proofs.put_run.Kinds as put-run-kinds
use Rattle.rows.proofs.put_run.Reads as put-run
use Rattle.rows.proofs.put_entries.Kinds as put-entries-kinds
use Rattle.rows.proofs.put_entries.Reads as put_entries

pub may_take_unique : Unique may-take-kinds.ps may-take-kinds.r may-take.Learnt
may_take_unique κs a z z' ws ws' p q = (cc, refl)

pub same_coordinator_unique : Unique same-coordinator-kinds.ps same-coordinator-kinds.r same-coordinator.Learnt
same_coordinator_unique κs a z z' ws ws' p q = (cc, refl)

pub nearer_unique : Unique nearer-kinds.ps nearer-kinds.r nearer.Learnt
nearer_unique κs a z z' ws ws' p q = (cc, refl)

pub trial_at_unique : Unique trial-at-kinds.ps trial-at-kinds.r trial-at.Learnt
trial_at_unique κs a z z' ws ws' p q = (cc, refl)

pub raise_attempts_unique : Unique raise-attempts-kinds.ps raise-attempts-kinds.r raise-attempts.Learnt
raise_attempts_unique κs a z z' ws ws' p q =
    let b : ws.0 ≡ ws'.0 = cc in
    (refl, λ j. (b j, ws.1))

pub place_ran_unique : Unique place-ran-kinds.ps place-ran-kinds.r place-ran.Learnt
place_ran_unique κs a z z' ws ws' p q = (cc, refl)

pub put_answer_unique : Unique put-answer-kinds.ps put-answer-kinds.r put-answer.Learnt
put_answer_unique κs a z z' ws ws' p q =
    let b : ws.0 ≡ ws'.0 = cc in
    (refl, λ j. (b j, ws.1))

pub put_held_unique : Unique put-held-kinds.ps put-held-kinds.r put-held.Learnt
put_held_unique κs a z z' ws ws' p q =
    let b : ws.0 ≡ ws'.0 = cc in
    (cc, λ j. (b j, ws.1))

pub mark_sent_unique : Unique mark-sent-kinds.ps mark-sent-kinds.r mark-sent.Learnt
mark_sent_unique κs a z z' ws ws' p q =
    let b : ws.0 ≡ ws'.0 = cc in
    (refl, λ j. (b j, ws.1))

pub run_again_unique : Unique run-again-kinds.ps run-again-kinds.r run-again.Learnt
run_again_unique κs a z z' ws ws' p q =
    let b : ws.0 ≡ ws'.0 = cc in
    (refl, λ j. (b j, ws.1))

pub put_run_unique : Unique put-run-kinds.ps put-run-kinds.r put-run.Learnt
put_run_unique κs a z z' ws ws' p q =
    let b : ws.0 ≡ ws'.0 = cc in
    (refl, λ j. (b j, ws.1))

pub put_entries_unique : Unique put-entries-kinds.ps put-entries-kinds.r put_entries.Learnt
put_entries_unique κs a z z' ws ws' p q =
    let b : ws.0 ≡ ws'.0 = cc in
    (refl, λ j. (b j, ws.1))

pub run_alone_unique : Unique run-alone-kinds.ps run-alone-kinds.r run_alone.Learnt
run_alone_unique κs a z z' ws ws' p q =
    let b : ws.0 ≡ ws'.0 = cc in
    let c : ws.1.1.1.0 ≡ ws'.1.1.1.0 = cc in
    (refl, λ j. (b j, (ws.1.0, (ws.1.1.0, (c j, ws.1.1.1.1)))))
