-- The laws of distance records.
use Rattle.std.specs.Prelude.{◌≡◌, ℕ, Bool, true, false, List, [], ◌∷◌, ◌++◌, length, take, drop, Some, None, Option, ◌==◌, slice_index, refl}
use Rattle.std.proofs.Common.{arith, sym, ap, ◌∙◌}
use Rattle.std.proofs.lemmas.List.{take-append-drop, drop-drop, drop_more, drop_all}
use Rattle.std.proofs.lemmas.Bool.{eqb-true}
use Rattle.std.proofs.lemmas.Bool.Decides.{nat_tests}
use Rattle.octets.specs.BigEndian.{digits, number_of, Bytes}
use Rattle.octets.proofs.BigEndian.{digits_part}
use Rattle.record.specs.declared.distance.Grade.{Grade}
use Rattle.record.specs.declared.distance.Distance.{Distance}
use Rattle.record.specs.Grades.{grade_number, grade_of}
use Rattle.record.specs.Distances.{encode_distance, graded, decode_distance}

-- a grade has the number that it was read from
grade_back : (n : ℕ) (g : Grade) → grade_of n ≡ Some g → grade_number g ≡ n
grade_back n g e = grind (arith, nat_tests)

module _ (bs : List ℕ) (x : Distance) (h : Bytes bs) where
  whole : (g : Grade) → length bs ≡ 7 → grade_number g ≡ slice_index bs 6
      → encode_distance (record { station = number_of (take 4 bs); reading = number_of (take 2 (drop 4 bs)); grade = g }) ≡ bs
  whole g n e =
      let a : digits 4 (number_of (take 4 bs)) ≡ take 4 bs = digits_part 4 0 bs h (omega arith) in
      let b : digits 2 (number_of (take 2 (drop 4 bs))) ≡ take 2 (drop 4 bs) = digits_part 2 4 bs h (omega arith) in
      let c : grade_number g ∷ [] ≡ drop 6 bs = ap (λ k. k ∷ []) e ∙ sym (drop_more bs 6 0 (omega arith) ∙ ap (λ (zs : List ℕ). slice_index bs 6 ∷ zs) (drop_all 7 bs (omega arith))) in
      ap (λ (zs : List ℕ). zs ++ (digits 2 (number_of (take 2 (drop 4 bs))) ++ grade_number g ∷ [])) a
      ∙ ap (λ (zs : List ℕ). take 4 bs ++ (zs ++ grade_number g ∷ [])) b
      ∙ ap (λ (zs : List ℕ). take 4 bs ++ (take 2 (drop 4 bs) ++ zs)) (c ∙ sym (drop-drop 2 4 bs))
      ∙ ap (λ (zs : List ℕ). take 4 bs ++ zs) (take-append-drop 2 (drop 4 bs))
      ∙ take-append-drop 4 bs

  by_grade : (o : Option Grade) → grade_of (slice_index bs 6) ≡ o → length bs ≡ 7 → graded bs o ≡ Some x → encode_distance x ≡ bs
  by_grade None q n e = cc
  by_grade (Some g) q n e =
      let y : Distance = record { station = number_of (take 4 bs); reading = number_of (take 2 (drop 4 bs)); grade = g } in
      let z : y ≡ x = cc in
      ap encode_distance (sym z) ∙ whole g n (grade_back (slice_index bs 6) g q)

  pub distance_again : decode_distance bs ≡ Some x → encode_distance x ≡ bs
  distance_again e = by_test (length bs == 7) refl
    where
      by_test : (t : Bool) → (length bs == 7) ≡ t → encode_distance x ≡ bs
      by_test true t = by_grade (grade_of (slice_index bs 6)) refl (eqb-true (length bs) 7 t) (simp t at e)
      by_test false t = let f : ◌≡◌ {A = Option Distance} None (Some x) = simp t at e in cc
