-- The texts of the queries of lists and of their strays.
use Rattle.std.specs.Prelude.{ℕ, List, codes}

-- the published questions on an item, from an asker on
abbrev pub published_text : List ℕ
published_text = codes "SELECT item, asker, n, answer, body FROM question WHERE item = ?1 AND answer IS NOT NULL AND asker >= ?2 ORDER BY item, asker, n"

-- those with a negative asker
abbrev pub stray_askers_text : List ℕ
stray_askers_text = codes "SELECT asker FROM question WHERE item = ?1 AND answer IS NOT NULL AND asker < 0 ORDER BY item, asker, n"

-- the questions of an asker, from an item on
abbrev pub questions_text : List ℕ
questions_text = codes "SELECT item, asker, n, answer, body FROM question WHERE asker = ?1 AND item >= ?2 ORDER BY asker, item, n"

-- those with a negative item
abbrev pub stray_asked_text : List ℕ
stray_asked_text = codes "SELECT item FROM question WHERE asker = ?1 AND item < 0 ORDER BY asker, item, n"

-- the feedback to a member, from an item on
abbrev pub given_text : List ℕ
given_text = codes "SELECT item, giver, receiver, rating, body FROM feedback WHERE receiver = ?1 AND item >= ?2 ORDER BY item, giver"

-- what of it comes before that item, and has a negative item or no rating
abbrev pub stray_feedback_text : List ℕ
stray_feedback_text = codes "SELECT item FROM feedback WHERE receiver = ?1 AND item < ?2 AND (item < 0 OR rating < -1 OR rating > 1) ORDER BY item, giver"
