-- What a call that reads a whole source has taken at its end.
use Rattle.std.proofs.Common.{◌≡◌, ℕ, ◌+◌, ◌<◌, ◌≤◌, List, ◌++◌, length, take, Err, IsErrOf, refl, arith, length-append}
use Rattle.std.proofs.lemmas.List.{length-take-le}
use Rattle.std.specs.declared.option.Option.{Option}
use Rattle.std.specs.Io.KnownBytes.{Consumes}
use Rattle.std.proofs.KnownBytes.{Consumes-trans}
use Rattle.sym_io.specs.declared.fault.ReadAllFault.TheVariants.{TooLong, OutOfMemory}
use Rattle.sym_io.specs.declared.whole.TheConstants.{PIECE_SIZE}
use Rattle.sym_io.specs.Reading.{TakesWithin}

-- one piece more passes the limit
pub TakesWithin-too_long : {T : Type 0} (a b c : Option (List ℕ)) (bytes chunk : List ℕ) (count limit : ℕ)
    → Consumes a b bytes → Consumes b c (take count chunk) → length bytes ≤ limit → count ≤ length chunk → length chunk ≡ PIECE_SIZE
    → limit < length bytes + count → TakesWithin a c limit (IsErrOf {T = T} (Err TooLong) TooLong)
TakesWithin-too_long a b c bytes chunk count limit first second small within size past = record {
  taken = bytes ++ take count chunk;
  consumed = Consumes-trans a b c bytes (take count chunk) first second;
  cause = (λ _. omega (arith, length-append bytes (take count chunk), length-take-le count chunk within), λ _. refl);
  one_piece = omega (arith, length-append bytes (take count chunk), length-take-le count chunk within);
}

-- one piece more does not
pub TakesWithin-no_memory : {T : Type 0} (a b c : Option (List ℕ)) (bytes chunk : List ℕ) (count limit : ℕ)
    → Consumes a b bytes → Consumes b c (take count chunk) → count ≤ length chunk → length bytes + count ≤ limit
    → TakesWithin a c limit (IsErrOf {T = T} (Err OutOfMemory) TooLong)
TakesWithin-no_memory a b c bytes chunk count limit first second within fits =
    let sized : length (bytes ++ take count chunk) ≡ length bytes + count =
    omega (arith, length-append bytes (take count chunk), length-take-le count chunk within) in
    record {
      taken = bytes ++ take count chunk;
      consumed = Consumes-trans a b c bytes (take count chunk) first second;
      cause = (λ e. absurd (cc), λ past. absurd (omega (arith, past, sized)));
      one_piece = omega (arith, sized);
    }
