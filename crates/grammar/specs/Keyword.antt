-- Words as the reader hands them on: which may be keywords, and one, two or five in a row.
use Rattle.std.specs.Prelude.{◌≡◌, ℕ, List, [], ◌∷◌}
use Rattle.text.specs.Views.{IsClassified, bytes_of}
use Rattle.text.specs.declared.word.Word.{Word}
use Rattle.text.specs.declared.word.Word.TheVariants.{Keyword, Number, Text}

-- the bytes of a keyword; no other word is one
abbrev pub keyword_bytes : Word → List ℕ
keyword_bytes (Keyword bytes place) = bytes.now
keyword_bytes (Number bytes place) = []
keyword_bytes (Text bytes place) = []

-- just one word, of the class of its bytes
pub record One (word : Word) (ws : List (List ℕ)) : Type 0 where
  pub bytes : ws ≡ bytes_of word ∷ []
  pub kind : IsClassified word

-- two words in front of the others, each of the class of its bytes
pub record Two (one two : Word) (before after : List (List ℕ)) : Type 0 where
  pub bytes : before ≡ bytes_of one ∷ bytes_of two ∷ after
  pub one_kind : IsClassified one
  pub two_kind : IsClassified two

-- the words stand for just these bytes, and each is of the class of its bytes
pub record Five (a p b q s : Word) (ws : List (List ℕ)) : Type 0 where
  pub bytes : ws ≡ bytes_of a ∷ bytes_of p ∷ bytes_of b ∷ bytes_of q ∷ bytes_of s ∷ []
  pub a_kind : IsClassified a
  pub p_kind : IsClassified p
  pub b_kind : IsClassified b
  pub q_kind : IsClassified q
  pub s_kind : IsClassified s
