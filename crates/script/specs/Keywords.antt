-- The words that the script language knows.
use Rattle.std.specs.Prelude.{◌≡◌, ℕ, List, codes, ◌≢◌, Option, Some, None}
use Rattle.script.specs.declared.parse.Keyword.{Keyword}
use Rattle.script.specs.declared.parse.Keyword.TheVariants.{Show, Free, Reply, Pair, Text, Generate}

-- how a keyword is written
abbrev pub spelling : Keyword → List ℕ
spelling Show = codes "show"
spelling Free = codes "free"
spelling Reply = codes "reply"
spelling Pair = codes "pair"
spelling Text = codes "text"
spelling Generate = codes "generate"

-- the word is this keyword, or none of them
abbrev pub Spells : List ℕ → Option Keyword → Type 0
Spells word (Some k) = word ≡ spelling k
Spells word None =
    (word ≢ codes "show") × (word ≢ codes "free") × (word ≢ codes "reply") × (word ≢ codes "pair") × (word ≢ codes "text") × (word ≢ codes "generate")
