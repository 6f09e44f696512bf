mod ExactCounts
