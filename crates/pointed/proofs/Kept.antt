-- A refusal changes nothing: whatever a contract allows with a refusal for its answer, the lent table is as it was. Assumes nothing.
use Rattle.verdict.specs.Promise.{Keeps}
use Rattle.blocks.specs.Answer.{worked}
use Rattle.blocks.proofs.Doing.{Refuses, kept}
use Rattle.pointed.proofs.cmpr.compare.Reads as compare_reads
use Rattle.pointed.proofs.mbit.modify.Reads as modify_reads
use Rattle.pointed.proofs.sens.sense.Reads as sense_reads

pub compare : Keeps compare_reads.Post (λ κs x. Refuses (worked x)) (λ κs a. a.0.now) (λ κs s. s.0.now)
compare κs a x s p h = kept p h

pub modify : Keeps modify_reads.Post (λ κs x. Refuses (worked x)) (λ κs a. a.0.now) (λ κs s. s.0.now)
modify κs a x s p h = kept p h

pub sense : Keeps sense_reads.Post (λ κs x. Refuses (worked x)) (λ κs a. a.0.now) (λ κs s. s.0.now)
sense κs a x s p h = kept p h
