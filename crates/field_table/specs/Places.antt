-- Places below a width, and the number of each in their list.
--   PlaceList           a width, and places in some order
--   nth_place l j       place j of the list
--   FindsPlaces table l the places are fewer than 2^32; at each of them, and nowhere else, the table has its number in the list
use Rattle.std.specs.Prelude.{◌≡◌, ◌<◌, ◌^◌, ℕ, List, length, Option, Some, None, slice_index, slice_index_or}

pub record PlaceList : Type 0 where
  pub width : ℕ
  pub places : List ℕ

abbrev pub nth_place : PlaceList → ℕ → ℕ
nth_place l j = slice_index l.places j

pub record FindsPlaces (table : List (Option ℕ)) (l : PlaceList) : Type 0 where
  pub only : (k j : ℕ) → slice_index_or table k None ≡ Some j → (j < length l.places) × (nth_place l j ≡ k)
  pub all : (j : ℕ) → j < length l.places → slice_index_or table (nth_place l j) None ≡ Some j
  pub few : length l.places < 2 ^ 32
