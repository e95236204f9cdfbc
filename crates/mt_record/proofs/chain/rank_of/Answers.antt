use Rattle.std.proofs.Common.{ℕ, leb, rules}
use Rattle.std.proofs.lemmas.List.Sorted.{IsPartitionPoint-from_clause, IsPartitionedBy-leb}
use Rattle.mt_record.proofs.Chains.{sorted_ends, up_to_point}
use Rattle.mt_record.proofs.chain.rank_of.Goals as goal

pub returns-clause-point : goal.returns-clause-point
returns-clause-point c =
    up_to_point c.args.time c.args.ends.now c.partition_point.result
    (IsPartitionPoint-from_clause (λ (end : ℕ). leb end c.args.time) c.args.ends.now c.partition_point.result c.partition_point.ensures.partitioned
    (IsPartitionedBy-leb (λ (end : ℕ). end) c.args.ends.now c.args.time (sorted_ends c.args.ends.now c.requires))
    (λ a r f' called. search rules))
