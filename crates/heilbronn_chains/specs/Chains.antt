-- Chains of Merel's matrices (Merel, Universal Fourier expansions of modular forms, 1994).
--   degree m          the determinant of m, as a number
--   Follows n m k     k is the member of Merel's set of determinant n that has the lattice of m and,
--                     as its second column (b, d), the first column (a, c) of m
--   HasNext n m       a member follows m
--   HasPrevious n m   m follows a member
--   member ms k       the matrix at place k of a list
--   IsChain n ms      members of Merel's set with one lattice, of which the first has b = 0, the
--                     last has c = 0, and each has as (b, d) the (a, c) of the one before
--   AddsChain n m old new
--                     the list has grown by a chain that begins with m
--   JoinsChains n list
--                     the list holds the chains one behind the other
--   AreChains n css   chains, one for each start, in the order of the starts
--   IsPlace css m i j m stands at place j of the list at place i
--   HasPlace css m    m stands at some place in some list
--   IsChainOf n m     a chain has the lattice of m, and no other has
use Rattle.std.specs.Prelude.{◌≡◌, ◌<◌, ◌+◌, ◌-◌, ◌++◌, ℕ, pos, List, [], length, map, All, slice_index_or, unsigned_abs}
use Rattle.std.specs.List.{AllPairs, flat_map}
use Rattle.p1_normal.specs.declared.matrix.Matrix.{Matrix}
use Rattle.p1_normal.specs.Actions.{matrix, determinant}
use Rattle.heilbronn_sets.specs.Merel.{IsMerel, starts}
use Rattle.heilbronn_chains.specs.Lattice.{SameLattice}

abbrev pub degree : Matrix → ℕ
degree m = unsigned_abs (determinant m)

pub record Follows (n : ℕ) (m k : Matrix) : Type 0 where
  pub is_member : IsMerel n k
  pub lattice : SameLattice n m k
  pub upper : k.b ≡ m.a
  pub lower : k.d ≡ m.c

abbrev pub member : List Matrix → ℕ → Matrix
member ms k = slice_index_or ms k (matrix (pos 0) (pos 0) (pos 0) (pos 0))

pub record IsChain (n : ℕ) (ms : List Matrix) : Type 0 where
  pub some : 0 < length ms
  pub members : All (IsMerel n) ms
  pub lattice : AllPairs (SameLattice n) ms
  pub first : (member ms 0).b ≡ pos 0
  pub last : (member ms (length ms - 1)).c ≡ pos 0
  pub upper : (k : ℕ) → k + 1 < length ms → (member ms (k + 1)).b ≡ (member ms k).a
  pub lower : (k : ℕ) → k + 1 < length ms → (member ms (k + 1)).d ≡ (member ms k).c

pub record AreChains (n : ℕ) (css : List (List Matrix)) : Type 0 where
  pub chains : All (IsChain n) css
  pub begins : map (λ ms. member ms 0) css ≡ starts n

pub record IsPlace (css : List (List Matrix)) (m : Matrix) (i j : ℕ) : Type 0 where
  pub chain : i < length css
  pub within : j < length (slice_index_or css i [])
  pub is : member (slice_index_or css i []) j ≡ m

pub record AddsChain (n : ℕ) (m : Matrix) (old new : List Matrix) : Type 0 where
  pub chain : List Matrix
  pub is : IsChain n chain
  pub first : member chain 0 ≡ m
  pub items : new ≡ old ++ chain

pub record JoinsChains (n : ℕ) (list : List Matrix) : Type 0 where
  pub chains : List (List Matrix)
  pub are : AreChains n chains
  pub items : list ≡ flat_map (λ ms. ms) chains

pub record HasPlace (css : List (List Matrix)) (m : Matrix) : Type 0 where
  pub i : ℕ
  pub j : ℕ
  pub place : IsPlace css m i j

pub record IsChainOf (n : ℕ) (m : Matrix) : Type 0 where
  pub chain : List Matrix
  pub is : IsChain n chain
  pub lattice : SameLattice n m (member chain 0)
  pub only : (ks : List Matrix) → IsChain n ks → SameLattice n m (member ks 0) → ks ≡ chain

pub record HasNext (n : ℕ) (m : Matrix) : Type 0 where
  pub next : Matrix
  pub follows : Follows n m next

pub record HasPrevious (n : ℕ) (m : Matrix) : Type 0 where
  pub previous : Matrix
  pub is_member : IsMerel n previous
  pub follows : Follows n previous m
