-- The limits of the program.
use Rattle.std.proofs.Common.{lit≤}
use Rattle.graph_spec.specs.declared.limits.Limits.{Limits}

-- 2^21 numbers of nodes, 2^22 edges and 2^20 labels; texts of expressions of 4096 bytes, nested 64 deep
abbrev pub program_limits : Limits
program_limits = record {
  nodes = 2097152;
  edges = 4194304;
  labels = 1048576;
  expr_bytes = 4096;
  expr_depth = 64;
  nodes_bounded = lit≤ tt;
  edges_bounded = lit≤ tt;
  labels_bounded = lit≤ tt;
  expr_bytes_bounded = lit≤ tt;
  expr_depth_bounded = lit≤ tt;
}
