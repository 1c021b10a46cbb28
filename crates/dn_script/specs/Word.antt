use Rattle.std.specs.Prelude.{ℕ, Bool, List, codes, nat_eq}
use Rattle.std.specs.Cmp.Lexicographic.{pointwise}
use Rattle.std.specs.List.{list_any}
use Rattle.dn_script.specs.declared.verbs.Verb.{Verb}
use Rattle.dn_script.specs.declared.verbs.Verb.TheVariants.{Pool, Nodes, Cache, Get, Put, Delete, Lane, Sessions, Start, Step, Flow, Merge, Monitor, Add, Move, Fence, Takeover, Balance, Remove, Stop, Fuse, Fail, Trim, Tell}

-- a verb's word in a script
abbrev pub word_of : Verb → List ℕ
word_of Pool = codes "pool"
word_of Nodes = codes "nodes"
word_of Cache = codes "cache"
word_of Get = codes "get"
word_of Put = codes "put"
word_of Delete = codes "del"
word_of Lane = codes "@"
word_of Sessions = codes "c"
word_of Start = codes "start"
word_of Step = codes "step"
word_of Flow = codes "flow"
word_of Merge = codes "merge"
word_of Monitor = codes "monitor"
word_of Add = codes "add"
word_of Move = codes "move"
word_of Fence = codes "fence"
word_of Takeover = codes "takeover"
word_of Balance = codes "balance"
word_of Remove = codes "remove"
word_of Stop = codes "stop"
word_of Fuse = codes "fuse"
word_of Fail = codes "fail"
word_of Trim = codes "trim"
word_of Tell = codes "tell"

-- a verb is one of these
abbrev pub is_among : Verb → List Verb → Bool
is_among verb verbs = list_any (λ v. pointwise nat_eq (word_of v) (word_of verb)) verbs
