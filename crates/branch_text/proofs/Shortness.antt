-- A text within the limits has few tokens, so the depth of what it spells fits into 32 bits.
use Rattle.std.proofs.Common.{◌≡◌, ℕ, ◌≤◌, ◌^◌, List, length, Option, None, Some, false, refl, ap, min, arith}
use Rattle.graph_spec.specs.declared.limits.Limits.{Limits}
use Rattle.path_expr.specs.Capped.{capped}
use Rattle.path_query.specs.Parsed.{is_past}
use Rattle.path_query.proofs.LexerLaws.{tokens_few}
use Rattle.path_query.proofs.Shortness.{few_bytes}
use Rattle.branch_spec.specs.Trees.{Branch}
use Rattle.branch_spec.specs.Tokens.{tokens}
use Rattle.branch_spec.specs.Relaxed.{relax}
use Rattle.branch_spec.specs.Depths.{depth}
use Rattle.branch_spec.proofs.TokenCounts.{few_edges, relaxed_few}
use Rattle.branch_expr.specs.CappedDepths.{greatest_depth}
use Rattle.branch_text.specs.Parsed.{SpellsBranch, HasFewTokens}
use Rattle.branch_text.proofs.TokenPrefixLaws.{branch_language}

pub few_tokens : (limits : Limits) (text : List ℕ) (q : Branch) → is_past limits text ≡ false → SpellsBranch text q → HasFewTokens q
few_tokens limits text q fits h =
    let few : length (tokens q) ≤ length text = tokens_few branch_language (tokens q) text h in
    let short : length text ≤ 2 ^ 30 = few_bytes limits text fits in
    omega (arith, few, short)

pub few_relaxed : (q : Branch) → HasFewTokens q → HasFewTokens (relax q)
few_relaxed q h = let few : length (tokens (relax q)) ≤ length (tokens q) = relaxed_few q in omega (arith, few, h)

same_capped : (o : Option ℕ) (most : ℕ) → ((d : ℕ) → o ≡ Some d → d ≤ most) → most ≤ 2 ^ 30 → capped greatest_depth o ≡ o
same_capped None most h le = refl
same_capped (Some n) most h le =
    let few : n ≤ most = h n refl in
    let e : min n greatest_depth ≡ n = omega (arith, few, le) in
    ap Some e

-- the depth that the code tells is the depth
pub uncapped : (q : Branch) → HasFewTokens q → capped greatest_depth (depth q) ≡ depth q
uncapped q h = same_capped (depth q) (length (tokens q)) (few_edges q) h
