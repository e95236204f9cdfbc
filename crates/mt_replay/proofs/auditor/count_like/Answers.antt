use Rattle.std.proofs.Common.{leb, rules}
use Rattle.std.proofs.lemmas.List.Sorted.{IsPartitionPoint-from_clause, IsPartitionedBy-leb}
use Rattle.mt_replay.specs.declared.auditor.Seen.{Seen}
use Rattle.mt_replay.proofs.SeenLemmas.{versions_rise, up_to_point}
use Rattle.mt_replay.proofs.auditor.count_like.Goals as goal

pub returns-clause-point : goal.returns-clause-point
returns-clause-point c =
    up_to_point c.args.first.version c.args.seen.now c.partition_point.result
    (IsPartitionPoint-from_clause (λ (one : Seen). leb one.version c.args.first.version) c.args.seen.now c.partition_point.result c.partition_point.ensures.partitioned
    (IsPartitionedBy-leb (λ (one : Seen). one.version) c.args.seen.now c.args.first.version (versions_rise c.args.seen.now c.requires))
    (λ a r f' called. search rules))
